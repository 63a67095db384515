use Rattle.std.proofs.Common.{◌≡◌, ◌≤◌, ◌*◌, take}
use Rattle.task_check.specs.Sizes.{patches_on}
use Rattle.task_check.proofs.plan.details.patches_on.Given as goal

abbrev pub invariant-loop-level : goal.invariant-loop-level
invariant-loop-level l = record { count : l.total ≡ patches_on l.p (take l.level-index l.levels); few : l.total ≤ 1024 * l.level-index }
