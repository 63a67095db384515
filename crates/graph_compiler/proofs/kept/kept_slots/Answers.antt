use Rattle.std.proofs.Common.{◌∙◌, List, ap, sym}
use Rattle.std.specs.Prelude.{slice_get}
use Rattle.std.proofs.lemmas.Option.{slice_get-get_or}
use Rattle.graph_compiler.specs.declared.plan.Slot.{Slot}
use Rattle.graph_compiler.proofs.Declared.{bounded_list, slot_declared}
use Rattle.graph_compiler.proofs.kept.kept_slots.Goals as goal

pub is_kept-requires-clause-slot : goal.is_kept-requires-clause-slot
is_kept-requires-clause-slot c =
    let p = c.args.p.now in
    let i = c.loop-slot.slot-index in
    slot_declared p c.requires.limits c.args.tasks.now (bounded_list p c.args.kind.list c.args.tasks.now c.requires.limits c.requires.tasks) i _
    (ap (λ (xs : List Slot). slice_get xs i) (sym c.requires.slots) ∙ slice_get-get_or c.args.slots.now i _ c.loop-slot-test.true)

pub is_kept-requires-clause-tasks : goal.is_kept-requires-clause-tasks
is_kept-requires-clause-tasks c = bounded_list c.args.p.now c.args.kind.list c.args.tasks.now c.requires.limits c.requires.tasks
