use Rattle.std.proofs.lemmas.List.{append_assoc}
use Rattle.std.proofs.lemmas.Result.{IfOk-equal}
use Rattle.graph_text.specs.Listing.{combining_text}
use Rattle.graph_text.proofs.tasks.put_combining.Goals as goal

pub returns : goal.returns
unfolding combining_text
returns c =
    IfOk-equal c.put_name.result _ _ _ c.put_name.ensures
    (rw (c.in_ok-extend_from_slice.ensures.items, c.line_name.ensures) (simp append_assoc))
