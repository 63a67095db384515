use Rattle.std.proofs.Common.{take, Ok}
use Rattle.std.specs.List.{flat_map}
use Rattle.dump_text.specs.Writing.{Writes}
use Rattle.uts.proofs.listing.write_lines.Given as goal

-- the lines so far are written
abbrev pub invariant-loop-number : goal.invariant-loop-number
invariant-loop-number g l = record {
  written : Writes g.O.Sink.after (g.O.Sink.taken l.fn.out) (g.O.Sink.taken l.out) (g.O.Sink.faults l.fn.out) (g.O.Sink.faults l.out)
      (Ok (tt {0})) (flat_map (λ bytes. bytes) (take l.number l.lines));
}
