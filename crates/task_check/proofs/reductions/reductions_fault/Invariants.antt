use Rattle.task_check.specs.Lines.{ReductionFault}
use Rattle.task_check.specs.Parts.{OnLine}
use Rattle.task_check.proofs.Walk.{NoneBefore}
use Rattle.task_check.proofs.reductions.reductions_fault.Given as goal

abbrev pub invariant-loop-place : goal.invariant-loop-place
invariant-loop-place l = NoneBefore l.problem.reductions (λ place v. OnLine v.line (ReductionFault l.problem place v)) l.place
