use Rattle.problem_types.specs.Lists.{task_list}
use Rattle.task_check.specs.Parts.{OfTask}
use Rattle.task_check.proofs.Walk.{NoneBefore}
use Rattle.task_check.proofs.tasks.tasks_fault.Given as goal

abbrev pub invariant-loop-place : goal.invariant-loop-place
invariant-loop-place l = NoneBefore (task_list l.problem l.list) (OfTask l.problem l.list) l.place
