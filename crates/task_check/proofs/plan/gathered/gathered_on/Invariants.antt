use Rattle.std.proofs.Common.{◌≡◌, ◌≤◌, ◌*◌, take}
use Rattle.std.specs.List.{sum_by}
use Rattle.task_check.specs.Counts.{gathered_for}
use Rattle.task_check.proofs.plan.gathered.gathered_on.Given as goal

abbrev pub invariant-loop-r : goal.invariant-loop-r
invariant-loop-r l = record { sum : l.total ≡ sum_by (gathered_for l.p l.t l.level l.patch) (take l.r-index l.t.requirements); few : l.total ≤ 68769820673 * l.r-index }
