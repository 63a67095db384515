use Rattle.problem_print.specs.Pages.{task_statements}
use Rattle.problem_print.proofs.Pages.{adds_more_parts}
use Rattle.problem_print.proofs.printing.put_tasks.Goals as goal

pub loop-task-preserved : goal.loop-task-preserved
loop-task-preserved c =
    adds_more_parts task_statements c.args.names.now c.args.tasks.now c.loop-task.task-index c.task-item.result
    c.args.page.now c.loop-task.page c.put_task.new.page c.loop-task-test.true c.task-item.is c.loop-task.invariant c.in_ok-put_task.ensures
