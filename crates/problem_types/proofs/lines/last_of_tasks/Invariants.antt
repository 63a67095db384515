use Rattle.std.proofs.Common.{◌≡◌, drop}
use Rattle.std.specs.List.{flat_map}
use Rattle.problem_types.specs.Ascent.{last_ascending}
use Rattle.problem_types.specs.Form.{task_lines}
use Rattle.problem_types.proofs.lines.last_of_tasks.Given as goal

-- the tasks that are left follow the last line
abbrev pub invariant-loop-task : goal.invariant-loop-task
invariant-loop-task l = last_ascending l.fn.after (flat_map task_lines l.tasks)
    ≡ last_ascending l.last (flat_map task_lines (drop l.task-index l.tasks))
