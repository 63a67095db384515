use Rattle.std.proofs.Common.{◌≡◌, ◌+◌, map}
use Rattle.uts_geom.specs.Spans.{counted}
use Rattle.graph_compiler.specs.Places.{marked_before}
use Rattle.graph_compiler.proofs.old_slots.places.Given as goal

abbrev pub invariant-loop-mark : goal.invariant-loop-mark
invariant-loop-mark l = record {
  places : l.places.items ≡ map (λ k. l.more + marked_before l.marks k) (counted 0 l.mark-index);
  before : l.before ≡ l.more + marked_before l.marks l.mark-index;
}
