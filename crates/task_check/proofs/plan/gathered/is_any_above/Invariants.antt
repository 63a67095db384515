use Rattle.std.proofs.Common.{◌≡◌, false, take}
use Rattle.task_check.specs.Sizes.{is_any_above}
use Rattle.task_check.proofs.plan.gathered.is_any_above.Given as goal

-- none so far
abbrev pub invariant-loop-level : goal.invariant-loop-level
invariant-loop-level l = is_any_above l.p l.t l.limit (take l.level-index l.levels) ≡ false
