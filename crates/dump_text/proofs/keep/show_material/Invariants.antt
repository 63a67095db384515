use Rattle.std.proofs.Common.{Ok}
use Rattle.std.specs.List.{flat_map}
use Rattle.uts_geom.specs.Spans.{counted}
use Rattle.dump_text.specs.Fields.{level_fields, lines_of_fields}
use Rattle.dump_text.specs.Showing.{CallShows}
use Rattle.dump_text.specs.Supplies.{shown_by}
use Rattle.dump_text.proofs.keep.show_material.Given as goal

-- the fields of the levels so far are shown
abbrev pub invariant-loop-level : goal.invariant-loop-level
invariant-loop-level g l =
    let shown = shown_by (g.F.Rows.rows l.fn.fields) (g.F.Rows.numbers l.fn.fields) in
    record {
      shows : CallShows g.O.Sink.after g.O.Sink.taken g.O.Sink.faults g.F.Rows.rows g.F.Rows.numbers l.fn.sink l.sink l.fn.fields l.fields
          l.fn.probes.items l.probes.items
          (λ b. record {
            state = (goal.Probe-dyn g (b.vtable, b.value)).state b.value;
            next = (goal.Probe-dyn g (b.vtable, b.value)).next b.value;
            text = (goal.Probe-dyn g (b.vtable, b.value)).text b.value;
          })
          (Ok (tt {0})) (flat_map (λ level. lines_of_fields shown l.kept (level_fields l.kept l.material level)) (counted 0 l.level));
    }
