use Rattle.std.proofs.Common.{◌≡◌, List, ℕ, ◌++◌, length}
use Rattle.uts_io.specs.Streams.{grown}
use Rattle.uts_io.proofs.whole.write_all.Given as goal

-- the sink grew by what stands before the rest
abbrev pub invariant-loop-rest : goal.invariant-loop-rest
invariant-loop-rest g l = record {
  front : List ℕ;
  splits : l.bytes ≡ front ++ l.rest;
  grew : g.O.Sink.taken l.sink ≡ grown g.O.Sink.after (g.O.Sink.taken l.fn.sink) front;
  calm : g.O.Sink.faults l.sink ≡ g.O.Sink.faults l.fn.sink;
}

abbrev pub decreases-loop-rest : goal.decreases-loop-rest
decreases-loop-rest g l = length l.rest
