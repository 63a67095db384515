use Rattle.std.proofs.Common.{◌≡◌, [], Ok, if◌then◌else◌}
use Rattle.std.specs.List.{flat_map}
use Rattle.uts_geom.specs.Spans.{counted}
use Rattle.problem_types.specs.Lists.{is_dumped}
use Rattle.uts_model.specs.Dump.{shown_at, step_text}
use Rattle.uts_model.specs.WholeField.{before_step}
use Rattle.dump_text.specs.Writing.{Writes}
use Rattle.whole_fields.specs.Stored.{IsWarehouseOf, state_of}
use Rattle.plain_engine.proofs.run.run_steps.Given as goal

-- the steps so far are shown, and the warehouse is that of the last one's end
abbrev pub invariant-loop-number : goal.invariant-loop-number
invariant-loop-number g l = record {
  warehouse : IsWarehouseOf l.c l.old;
  state : state_of l.c l.old ≡ before_step l.c l.number;
  written : Writes g.O.Sink.after (g.O.Sink.taken l.fn.sink) (g.O.Sink.taken l.sink) (g.O.Sink.faults l.fn.sink) (g.O.Sink.faults l.sink)
      (Ok (tt {0})) (flat_map (λ step. if is_dumped l.c step then step_text l.c (shown_at l.c step) step else []) (counted 0 l.number));
}
