use Rattle.std.proofs.Common.{map, take, Ok}
use Rattle.std.specs.List.{flat_map}
use Rattle.dump_text.specs.Showing.{probe_line}
use Rattle.dump_text.specs.Writing.{Writes}
use Rattle.dump_text.proofs.ends.write_probe_lines.Given as goal

-- the lines of the probes so far are written
abbrev pub invariant-loop-probe : goal.invariant-loop-probe
invariant-loop-probe g l = record {
  written : Writes g.O.Sink.after (g.O.Sink.taken l.fn.sink) (g.O.Sink.taken l.sink) (g.O.Sink.faults l.fn.sink) (g.O.Sink.faults l.sink)
      (Ok (tt {0})) (flat_map probe_line
      (map (λ b. (goal.Probe-dyn g (b.vtable, b.value)).text b.value ((goal.Probe-dyn g (b.vtable, b.value)).state b.value))
      (take l.probe-index l.probe-items)));
}
