use Rattle.std.proofs.lemmas.Option.{unwrap_or-slice_get}
use Rattle.graph_text.proofs.slots.uses_of.Goals as goal

pub returns : goal.returns
returns c = cc (unwrap_or-slice_get c.args.g.now.uses c.args.number 0)
