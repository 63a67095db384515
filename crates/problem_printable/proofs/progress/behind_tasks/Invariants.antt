use Rattle.std.proofs.Common.{◌≡◌, drop}
use Rattle.std.specs.List.{flat_map}
use Rattle.problem_printable.specs.Progress.{progress_behind, task_marks}
use Rattle.problem_printable.proofs.progress.behind_tasks.Given as goal

-- the tasks that are left follow the last one
abbrev pub invariant-loop-task : goal.invariant-loop-task
invariant-loop-task l = progress_behind l.fn.before (flat_map task_marks l.tasks)
    ≡ progress_behind l.last (flat_map task_marks (drop l.task-index l.tasks))
