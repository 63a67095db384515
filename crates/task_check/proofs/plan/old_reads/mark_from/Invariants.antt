use Rattle.std.proofs.Common.{length, take}
use Rattle.std.specs.List.{list_any}
use Rattle.task_check.specs.Marks.{AreMarkedToo}
use Rattle.task_check.specs.OldSlots.{wants_old}
use Rattle.task_check.specs.Plan.{patches_of}
use Rattle.task_check.proofs.plan.old_reads.mark_from.Given as goal

abbrev pub invariant-loop-r : goal.invariant-loop-r
invariant-loop-r l = AreMarkedToo l.initial.marks l.marks (length (patches_of l.p l.level))
    (λ patch. list_any (wants_old l.p l.t l.name l.level patch l.from) (take l.r-index l.t.requirements))
