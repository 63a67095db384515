use Rattle.std.proofs.Common.{Ok}
use Rattle.std.specs.List.{flat_map}
use Rattle.uts_geom.specs.Spans.{counted}
use Rattle.dump_text.specs.Fields.{material_fields, lines_of_fields}
use Rattle.dump_text.specs.Showing.{CallShows}
use Rattle.dump_text.specs.Supplies.{shown_by}
use Rattle.dump_text.proofs.keep.show_variable.Given as goal

-- the fields of the materials so far are shown
abbrev pub invariant-loop-material : goal.invariant-loop-material
invariant-loop-material g l =
    let shown = shown_by (g.F.Rows.rows l.fn.fields) (g.F.Rows.numbers l.fn.fields) in
    record {
      shows : CallShows g.O.Sink.after g.O.Sink.taken g.O.Sink.faults g.F.Rows.rows g.F.Rows.numbers l.fn.sink l.sink l.fn.fields l.fields
          l.fn.probes.items l.probes.items
          (λ b. record {
            state = (goal.Probe-dyn g (b.vtable, b.value)).state b.value;
            next = (goal.Probe-dyn g (b.vtable, b.value)).next b.value;
            text = (goal.Probe-dyn g (b.vtable, b.value)).text b.value;
          })
          (Ok (tt {0})) (flat_map (λ material. lines_of_fields shown l.kept (material_fields l.kept material)) (counted 0 l.material));
    }
