use Rattle.serial_step.proofs.Ready.{all_reads_filled, filled_after, writes_list}
use Rattle.serial_step.proofs.order.run_one.Goals as goal

pub gather_all-requires-clause-there : goal.gather_all-requires-clause-there
gather_all-requires-clause-there g c =
    rw c.slots_of.ensures
    (all_reads_filled g.J.Wants.fits (g.J.Wants.content c.args.job.now) c.args.graph.now c.requires.valid c.args.task c.args.places.now c.requires.task
    c.requires.filled)

pub put_all-requires-clause-ascending : goal.put_all-requires-clause-ascending
put_all-requires-clause-ascending g c = rw c.slots_of-2.ensures (writes_list c.args.graph.now c.requires.valid c.args.task c.requires.task).ascending

pub put_all-requires-clause-within : goal.put_all-requires-clause-within
put_all-requires-clause-within g c =
    rw (c.slots_of-2.ensures, c.requires.filled.many) (writes_list c.args.graph.now c.requires.valid c.args.task c.requires.task).below

pub returns : goal.returns
returns g c =
    filled_after g.J.Wants.fits (g.J.Wants.content c.args.job.now) c.args.graph.now c.args.task c.run.result.items c.args.places.now c.put_all.new.places
    (rw (← c.requires.graph) at c.run.ensures) (rw c.slots_of-2.ensures at c.put_all.ensures) c.requires.filled
