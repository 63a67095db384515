use Rattle.std.proofs.Common.{◌≡◌, take}
use Rattle.problem_types.proofs.copying.copy_tasks.Given as goal

-- the tasks so far are copied
abbrev pub invariant-loop-task : goal.invariant-loop-task
invariant-loop-task l = l.copied ≡ take l.task-index l.tasks
