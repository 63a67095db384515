use Rattle.std.proofs.Common.{◌++◌, [], length, refl, sym, subst, arith}
use Rattle.std.proofs.lemmas.Option.{slice_get_read}
use Rattle.problem_types.specs.declared.problem.Task.{Task}
use Rattle.task_check.specs.Bounds.{IsBoundedTask}
use Rattle.task_check.specs.Plan.{combining, on_patches}
use Rattle.graph_compiler.specs.Shown.{shown_task}
use Rattle.graph_compiler.proofs.Growing.{put_by_place}
use Rattle.graph_compiler.proofs.details.detailed_tasks.Goals as goal

pub put_task-requires-clause-task : goal.put_task-requires-clause-task
put_task-requires-clause-task c =
    let P : Task → Type 0 = λ t. IsBoundedTask c.args.p.now t in
    subst P (sym c.index-tasks-task.is) (c.requires.tasks.tasks c.loop-task.task c.index-tasks-task.result (omega arith))

pub loop-task-preserved : goal.loop-task-preserved
loop-task-preserved c =
    put_by_place shown_task (λ place t. on_patches c.args.p.now place t ++ combining place t) c.args.tasks.now [] c.loop-task.details c.put_task.new.details
    c.loop-task.task c.index-tasks-task.result
    (slice_get_read c.args.tasks.now (length c.args.tasks.now) c.loop-task.task c.index-tasks-task.result refl (omega arith) c.index-tasks-task.is)
    c.loop-task.invariant c.in_ok-put_task.ensures
