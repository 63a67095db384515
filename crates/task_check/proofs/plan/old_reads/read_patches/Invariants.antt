use Rattle.std.proofs.Common.{[], length, take}
use Rattle.std.specs.List.{list_any}
use Rattle.problem_types.specs.Lists.{task_list}
use Rattle.task_check.specs.Marks.{AreMarkedToo}
use Rattle.task_check.specs.OldSlots.{reads_variable}
use Rattle.task_check.specs.Plan.{patches_of}
use Rattle.task_check.proofs.plan.old_reads.read_patches.Given as goal

abbrev pub invariant-loop-t : goal.invariant-loop-t
invariant-loop-t l = AreMarkedToo [] l.marks (length (patches_of l.p l.level))
    (λ patch. list_any (reads_variable l.p l.name l.level l.material patch) (take l.t-index (task_list l.p l.list)))
