use Rattle.std.proofs.Common.{◌++◌, take, arith}
use Rattle.uts_io.specs.Streams.{grew_both}
use Rattle.uts_io.proofs.Parts.{cut_further}
use Rattle.uts_io.proofs.whole.write_all.Goals as goal

-- what stood before the rest, and then what the sink took of it
pub loop-rest-preserved : goal.loop-rest-preserved
loop-rest-preserved g c = record {
  front = c.loop-rest.invariant.front ++ take c.in-Took.n c.loop-rest.rest.now;
  splits = cut_further _ c.loop-rest.invariant.front c.loop-rest.rest.now c.in-Took.n c.loop-rest.invariant.splits;
  grew = grew_both _ _ _ _ _ _ g.met.O.Sink.after_both c.loop-rest.invariant.grew c.in-Took.ensures.took.2;
  calm = grind arith;
}
