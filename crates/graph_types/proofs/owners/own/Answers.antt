use Rattle.graph_types.proofs.Writing.{owned_more}
use Rattle.graph_types.proofs.owners.own.Goals as goal

pub loop-n-preserved : goal.loop-n-preserved
loop-n-preserved c =
    owned_more c.args.owners.now c.loop-n.owners c.args.numbers.now c.loop-n.auto.owners c.loop-n.n-index c.loop-n-test.true c.args.task c.loop-n.invariant
