use Rattle.std.proofs.Common.{Ok}
use Rattle.std.specs.List.{flat_map}
use Rattle.uts_geom.specs.Spans.{counted}
use Rattle.dump_text.specs.Keeps.{at_keep}
use Rattle.dump_text.specs.Lines.{keep_lines}
use Rattle.dump_text.specs.Showing.{CallShows}
use Rattle.dump_text.specs.Supplies.{shown_by}
use Rattle.dump_text.proofs.step.show_keeps.Given as goal

-- what stands for the names so far is shown
abbrev pub invariant-loop-place : goal.invariant-loop-place
invariant-loop-place g l =
    let shown = shown_by (g.F.Rows.rows l.fn.fields) (g.F.Rows.numbers l.fn.fields) in
    record {
      shows : CallShows g.O.Sink.after g.O.Sink.taken g.O.Sink.faults g.F.Rows.rows g.F.Rows.numbers l.fn.sink l.sink l.fn.fields l.fields
          l.fn.probes.items l.probes.items
          (λ b. record {
            state = (goal.Probe-dyn g (b.vtable, b.value)).state b.value;
            next = (goal.Probe-dyn g (b.vtable, b.value)).next b.value;
            text = (goal.Probe-dyn g (b.vtable, b.value)).text b.value;
          })
          (Ok (tt {0})) (flat_map (at_keep l.problem (keep_lines l.problem shown l.step)) (counted 0 l.place));
    }
