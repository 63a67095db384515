use Rattle.std.proofs.Common.{◌≡◌, ◌∙◌, List, length, refl, sym, ap}
use Rattle.std.specs.Prelude.{slice_get}
use Rattle.std.proofs.lemmas.Option.{IfSome_then, slice_get_read}
use Rattle.graph_compiler.specs.declared.plan.Slot.{Slot}
use Rattle.task_tests.proofs.Found.{fits_at}
use Rattle.task_tests.proofs.olds.old_number_at.Goals as goal

pub returns : goal.returns
returns c =
    let slots = c.as_slice.result.now in
    let slot = c.in_ok-slot.slot.now in
    let looked = c.in_ok-slot.ensures.lookup in
    let at = ap (λ (xs : List Slot). slice_get xs c.args.k) (sym c.as_slice.ensures)
    ∙ slice_get_read slots (length slots) c.args.k slot refl looked.3.0 (looked.3.1 slot) in
    IfSome_then c.old_number.result c.old_number.ensures
    (λ v fits. fits_at c.args.c.now c.args.step c.args.plan.now c.requires.compiled c.args.k slot v at fits)
