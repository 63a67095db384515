use Rattle.std.proofs.Common.{◌∙◌, [], List, Option, ℕ, ap}
use Rattle.std.specs.Prelude.{unwrap_or}
use Rattle.std.proofs.lemmas.Option.{unwrap_or-slice_get}
use Rattle.graph_text.proofs.lists.list_at.Goals as goal

pub returns-in-None : goal.returns-in-None
returns-in-None c =
    ap (λ (found : Option (List ℕ)). unwrap_or found []) c.in-None.ensures.value
    ∙ unwrap_or-slice_get c.args.lists.now c.args.place []
