use Rattle.std.proofs.Common.{◌≡◌, take}
use Rattle.uts_model.specs.WholeField.{after_tasks}
use Rattle.whole_fields.specs.Stored.{IsWarehouseOf, state_of}
use Rattle.plain_engine.proofs.tasks.run_tasks.Given as goal

-- the warehouse is what the tasks so far left
abbrev pub invariant-loop-task : goal.invariant-loop-task
invariant-loop-task l = record {
  warehouse : IsWarehouseOf l.step.checked.now l.new;
  state : state_of l.step.checked.now l.new
      ≡ after_tasks l.step.checked.now l.step.number (state_of l.step.checked.now l.step.old.now) (take l.task-index l.tasks);
}
