use Rattle.std.proofs.Common.{◌≡◌, ◌≤◌, ◌*◌, take}
use Rattle.std.specs.List.{sum_by}
use Rattle.problem_types.specs.Lists.{task_list}
use Rattle.task_check.specs.Sizes.{slots_written}
use Rattle.task_check.proofs.plan.slots.written_count.Given as goal

abbrev pub invariant-loop-t : goal.invariant-loop-t
invariant-loop-t l = record { sum : l.total ≡ sum_by (slots_written l.p) (take l.t-index (task_list l.p l.list)); few : l.total ≤ 2097216 * l.t-index }
