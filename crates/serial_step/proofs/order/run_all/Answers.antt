use Rattle.std.proofs.Common.{arith}
use Rattle.serial_step.proofs.Ready.{all_filled}
use Rattle.serial_step.proofs.order.run_all.Goals as goal

pub returns : goal.returns
returns g c =
    all_filled g.J.Wants.fits (g.J.Wants.content c.args.job.now) c.args.graph.now c.requires.valid c.loop-task.task c.loop-task.places (omega arith)
    c.loop-task.invariant.filled
