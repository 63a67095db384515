use Rattle.run_task.proofs.LineByLine.{AreDone}
use Rattle.run_task.proofs.running.run_lines.Given as goal

abbrev pub invariant-loop-line : goal.invariant-loop-line
invariant-loop-line l = AreDone l.k l.initial.outputs l.outputs l.line
