use Rattle.std.proofs.Common.{◌≡◌, false, take}
use Rattle.std.specs.List.{list_any}
use Rattle.problem_types.specs.Lists.{task_list}
use Rattle.task_check.specs.Sizes.{gathers_above}
use Rattle.task_check.proofs.plan.gathered.is_gathered_above.Given as goal

-- none so far
abbrev pub invariant-loop-t : goal.invariant-loop-t
invariant-loop-t l = list_any (gathers_above l.p l.limit) (take l.t-index (task_list l.p l.list)) ≡ false
