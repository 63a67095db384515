use Rattle.std.proofs.Common.{◌≡◌, ◌≤◌, ◌*◌, take}
use Rattle.task_check.specs.Sizes.{line_total}
use Rattle.task_check.proofs.plan.slots.line_total.Given as goal

abbrev pub invariant-loop-level : goal.invariant-loop-level
invariant-loop-level l = record { sum : l.total ≡ line_total l.p (take l.level-index l.levels) l.w; few : l.total ≤ 70420296369152 * l.level-index }
