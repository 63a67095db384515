use Rattle.task_check.specs.Lines.{VariableFault}
use Rattle.task_check.specs.Parts.{OnLine}
use Rattle.task_check.proofs.Walk.{NoneBefore}
use Rattle.task_check.proofs.variables.variables_fault.Given as goal

abbrev pub invariant-loop-place : goal.invariant-loop-place
invariant-loop-place l = NoneBefore l.problem.vars (λ place v. OnLine v.line (VariableFault l.problem place v)) l.place
