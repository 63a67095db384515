use Rattle.std.proofs.lemmas.Result.{IfOk-equal}
use Rattle.graph_text.specs.Listing.{labelled, placed_text}
use Rattle.graph_text.proofs.Lines.{four_behind}
use Rattle.graph_text.proofs.slots.put_placed.Goals as goal
use Rattle.std.specs.Prelude.{codes}

pub returns : goal.returns
unfolding placed_text
returns c =
    let s = c.args.s in
    IfOk-equal c.put_labelled-4.result _ _ _ c.put_labelled-4.ensures
    (rw (c.in_ok-put_labelled-3.ensures, c.in_ok-put_labelled-2.ensures, c.in_ok-put_labelled.ensures)
    (four_behind c.args.line.now.items (labelled (codes " material ") s.material) (labelled (codes " level ") s.level)
    (labelled (codes " patch ") s.patch) (labelled (codes " version ") s.version)))
