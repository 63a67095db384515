use Rattle.plain_engine.proofs.run.run_tasks_of.Goals as goal

pub invariant_of-step : goal.invariant_of-step
invariant_of-step c = record {
  shaped = c.args.plan.now.shaped;
  old_holds = c.requires.warehouse;
  runnable = c.args.plan.now.runnable c.args.number;
}
