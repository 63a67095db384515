use Rattle.std.proofs.Common.{◌≡◌, false, take}
use Rattle.std.specs.List.{list_any}
use Rattle.problem_types.specs.Lists.{task_list}
use Rattle.task_check.specs.OldSlots.{reads_number}
use Rattle.task_check.proofs.plan.old_reads.is_number_read.Given as goal

abbrev pub invariant-loop-t : goal.invariant-loop-t
invariant-loop-t l = list_any (reads_number l.name) (take l.t-index (task_list l.p l.list)) ≡ false
