use Rattle.std.proofs.Common.{◌<◌}
use Rattle.task_check.specs.First.{rank}
use Rattle.task_check.specs.declared.fault.FaultKind.{FaultKind}
use Rattle.task_check.proofs.line.first_kind.Given as goal

-- no fault of a kind so far stands
abbrev pub invariant-loop-place : goal.invariant-loop-place
invariant-loop-place g l = (k : FaultKind) → rank k < l.place → g.L.Line.stands l.line k → ⊥
