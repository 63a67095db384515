use Rattle.std.proofs.Common.{◌∙◌, sym, rules}
use Rattle.problem_printable.specs.Progress.{task_marks}
use Rattle.problem_printable.proofs.Steps.{one_more, stopped}
use Rattle.problem_printable.proofs.progress.behind_tasks.Goals as goal

pub returns-in_err-last : goal.returns-in_err-last
returns-in_err-last c =
    let stop = stopped task_marks c.args.tasks.now c.loop-task.task-index c.task-item.result c.args.before c.loop-task.last
    c.loop-task-test.true c.task-item.is c.loop-task.invariant (sym c.behind_task.ensures ∙ c.in_err-last.was) in
    search rules

pub loop-task-preserved : goal.loop-task-preserved
loop-task-preserved c =
    one_more task_marks c.args.tasks.now c.loop-task.task-index c.task-item.result c.args.before c.loop-task.last
    c.loop-task-test.true c.task-item.is c.loop-task.invariant c.in_ok-last.last (sym c.behind_task.ensures ∙ c.in_ok-last.was)
