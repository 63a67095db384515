use Rattle.serial_step.specs.Filled.{AreFilledBefore}
use Rattle.serial_step.proofs.order.run_all.Given as goal

-- the old slots and those that the tasks before this one write are filled
abbrev pub invariant-loop-task : goal.invariant-loop-task
invariant-loop-task g l = record { filled : AreFilledBefore g.J.Wants.fits (g.J.Wants.content l.job) l.graph l.task l.places }
