use Rattle.std.proofs.Common.{◌≡◌, false, take}
use Rattle.std.specs.List.{list_any}
use Rattle.problem_types.specs.Lists.{task_list}
use Rattle.task_check.specs.OldSlots.{requires_old}
use Rattle.task_check.proofs.plan.old_reads.is_required.Given as goal

abbrev pub invariant-loop-t : goal.invariant-loop-t
invariant-loop-t l = list_any (requires_old l.name) (take l.t-index (task_list l.p l.list)) ≡ false
