use Rattle.graph_types.proofs.Writing.{raised_more}
use Rattle.graph_types.proofs.tables.raise.Goals as goal

pub loop-n-preserved : goal.loop-n-preserved
loop-n-preserved c =
    raised_more c.args.counts.now c.loop-n.counts c.args.numbers.now c.loop-n.auto.counts c.loop-n.n-index c.loop-n-test.true
    (c.requires.once c.loop-n.n-index c.loop-n-test.true) c.loop-n.invariant
