use Rattle.std.proofs.Common.{sym, subst, arith, take}
use Rattle.whole_fields.specs.Stored.{state_of}
use Rattle.plain_engine.specs.Changes.{IsBlankOutside}
use Rattle.plain_engine.specs.Runnable.{IsRunnable}
use Rattle.plain_engine.proofs.Changed.{after_tasks-blank}
use Rattle.plain_engine.proofs.tasks.run_tasks.Goals as goal

pub run_task-requires-clause-task : goal.run_task-requires-clause-task
run_task-requires-clause-task c =
    subst (IsRunnable c.args.step.now.checked.now c.args.step.now.places) (sym c.task-item.is) (c.requires.tasks c.loop-task.task-index c.task-item.result (omega arith))

pub run_task-requires-clause-blank : goal.run_task-requires-clause-blank
run_task-requires-clause-blank c =
    let step = c.args.step.now in
    subst (IsBlankOutside step.checked.now) (sym c.loop-task.invariant.state)
    (after_tasks-blank step.checked.now step.number (state_of step.checked.now step.old.now) (take c.loop-task.task-index c.args.tasks.now))
