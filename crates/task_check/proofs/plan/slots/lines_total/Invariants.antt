use Rattle.std.proofs.Common.{◌≡◌, ◌≤◌, ◌*◌, take}
use Rattle.std.specs.List.{sum_by}
use Rattle.task_check.specs.Sizes.{line_total}
use Rattle.task_check.proofs.plan.slots.lines_total.Given as goal

abbrev pub invariant-loop-w : goal.invariant-loop-w
invariant-loop-w l = record { sum : l.total ≡ sum_by (line_total l.p l.t.levels) (take l.w-index l.t.writes); few : l.total ≤ (4 * 70420296369152) * l.w-index }
