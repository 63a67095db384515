use Rattle.std.proofs.Common.{◌≡◌, ◌≤◌, ◌+◌, ◌*◌, take}
use Rattle.std.specs.List.{sum_by}
use Rattle.problem_types.specs.Lists.{task_list}
use Rattle.task_check.specs.Sizes.{written_total}
use Rattle.task_check.proofs.plan.slots.written_size.Given as goal

abbrev pub invariant-loop-t : goal.invariant-loop-t
invariant-loop-t l = record { sum : l.total ≡ sum_by (written_total l.p) (take l.t-index (task_list l.p l.list)); few : l.total ≤ (2048 * 70420296369152 + 64) * l.t-index }
