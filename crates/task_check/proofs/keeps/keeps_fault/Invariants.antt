use Rattle.task_check.specs.Lines.{KeepFault}
use Rattle.task_check.specs.Parts.{OnLine}
use Rattle.task_check.proofs.Walk.{NoneBefore}
use Rattle.task_check.proofs.keeps.keeps_fault.Given as goal

abbrev pub invariant-loop-place : goal.invariant-loop-place
invariant-loop-place l = NoneBefore l.problem.keeps (λ place v. OnLine v.line (KeepFault l.problem place v)) l.place
