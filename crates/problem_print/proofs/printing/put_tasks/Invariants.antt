use Rattle.std.proofs.Common.{take}
use Rattle.std.specs.List.{flat_map}
use Rattle.problem_print.specs.Pages.{Adds, task_statements}
use Rattle.problem_print.proofs.printing.put_tasks.Given as goal

-- the statements so far
abbrev pub invariant-loop-task : goal.invariant-loop-task
invariant-loop-task l = Adds l.names (flat_map task_statements (take l.task-index l.tasks)) l.fn.page l.page
