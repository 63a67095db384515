use Rattle.task_check.specs.Lines.{WriteFault}
use Rattle.task_check.specs.Parts.{OnLine}
use Rattle.task_check.proofs.Walk.{NoneBefore}
use Rattle.task_check.proofs.writes.writes_fault.Given as goal

abbrev pub invariant-loop-at_line : goal.invariant-loop-at_line
invariant-loop-at_line l = NoneBefore l.task.writes (λ at_line w. OnLine w.line (WriteFault l.problem l.list l.place l.task at_line w)) l.at_line
