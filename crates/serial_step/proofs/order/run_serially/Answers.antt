use Rattle.std.proofs.Common.{arith}
use Rattle.uts_geom.specs.Counting.{length-counted}
use Rattle.serial_step.proofs.Ready.{old_filled}
use Rattle.serial_step.proofs.order.run_serially.Goals as goal

pub with_old-requires : goal.with_old-requires
with_old-requires g c = omega (arith, c.requires.old.many, length-counted 0 c.args.graph.now.old, c.requires.valid.lengths.old)

pub run_all-requires-clause-filled : goal.run_all-requires-clause-filled
run_all-requires-clause-filled g c =
    rw c.as_mut_slice.ensures.value
    (old_filled g.J.Wants.fits (g.J.Wants.content c.args.job.now) c.args.graph.now c.args.old.items c.in_ok-places.places.items c.requires.old
    c.in_ok-places.ensures.many c.in_ok-places.ensures.old)
