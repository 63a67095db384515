use Rattle.task_check.specs.Lines.{RequireFault}
use Rattle.task_check.specs.Parts.{OnLine}
use Rattle.task_check.proofs.Walk.{NoneBefore}
use Rattle.task_check.proofs.requirements.requirements_fault.Given as goal

abbrev pub invariant-loop-at_line : goal.invariant-loop-at_line
invariant-loop-at_line l = NoneBefore l.task.requirements (λ at_line r. OnLine r.line (RequireFault l.problem l.list l.place l.task at_line r)) l.at_line
