use Rattle.std.proofs.Common.{◌+◌, ◌<◌}
use Rattle.task_check.specs.declared.fault.Which.{Which}
use Rattle.task_check.specs.Counts.{IsPlanTooLarge}
use Rattle.task_check.specs.First.{limit_rank}
use Rattle.task_check.proofs.plan.limits.plan_fault.Given as goal

-- no plan is above a limit so far
abbrev pub invariant-loop-place : goal.invariant-loop-place
invariant-loop-place l = (w : Which) → limit_rank w < 12 + l.place → IsPlanTooLarge l.p w → ⊥
