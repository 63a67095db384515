use Rattle.std.proofs.Common.{◌≡◌, ◌∷◌, [], ◌++◌, Ok}
use Rattle.std.specs.List.{flat_map}
use Rattle.uts_geom.specs.Spans.{rows_of}
use Rattle.uts_geom.specs.Rows.{rows_left}
use Rattle.dump_text.specs.Fields.{kept_row}
use Rattle.dump_text.specs.Lines.{line_of}
use Rattle.dump_text.specs.Showing.{CallShows}
use Rattle.dump_text.specs.Supplies.{shown_by}
use Rattle.dump_text.proofs.field.show_rows.Given as goal

-- the rows so far are shown, and the others are left
abbrev pub invariant-loop-at : goal.invariant-loop-at
invariant-loop-at g l =
    let shown = shown_by (g.F.Rows.rows l.fn.fields) (g.F.Rows.numbers l.fn.fields) in
    record {
      split : l.yielded ++ rows_left l.at-iterator ≡ rows_of l.place.span;
      shows : CallShows g.O.Sink.after g.O.Sink.taken g.O.Sink.faults g.F.Rows.rows g.F.Rows.numbers l.fn.sink l.sink l.fn.fields l.fields
          l.fn.probes.items l.probes.items
          (λ b. record {
            state = (goal.Probe-dyn g (b.vtable, b.value)).state b.value;
            next = (goal.Probe-dyn g (b.vtable, b.value)).next b.value;
            text = (goal.Probe-dyn g (b.vtable, b.value)).text b.value;
          })
          (Ok (tt {0})) (flat_map (λ at. line_of (kept_row shown l.kept l.place at) ∷ []) l.yielded);
    }
