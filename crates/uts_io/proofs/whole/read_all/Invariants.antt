use Rattle.std.proofs.Common.{◌≡◌, ◌-◌, ◌+◌, ◌≤◌, vec_len}
use Rattle.uts_io.specs.Streams.{TakesFront}
use Rattle.uts_io.proofs.whole.read_all.Given as goal

-- the bytes so far were taken from the source
abbrev pub invariant-loop-n : goal.invariant-loop-n
invariant-loop-n g l = record {
  within : vec_len l.bytes ≤ l.limit;
  takes : TakesFront (g.S.Source.left l.fn.source) l.bytes.items (g.S.Source.left l.source);
  calm : g.S.Source.faults l.source ≡ g.S.Source.faults l.fn.source;
}

abbrev pub decreases-loop-n : goal.decreases-loop-n
decreases-loop-n g l = l.limit + 1 - vec_len l.bytes
