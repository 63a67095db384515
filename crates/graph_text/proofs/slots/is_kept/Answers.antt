use Rattle.std.proofs.Common.{false}
use Rattle.std.proofs.lemmas.Option.{unwrap_or-slice_get}
use Rattle.graph_text.proofs.slots.is_kept.Goals as goal

pub returns : goal.returns
returns c = cc (unwrap_or-slice_get c.args.g.now.kept c.args.number false)
