use Rattle.std.proofs.Common.{◌≡◌, ◌<◌, ℕ, length, slice_index_or}
use Rattle.whole_fields.specs.Shapes.{no_shape, shape_of}
use Rattle.whole_fields.proofs.shapes.Shapes.of.Given as goal

abbrev pub invariant-loop-name : goal.invariant-loop-name
invariant-loop-name l = record {
  long : length l.shapes ≡ l.name;
  each : (k : ℕ) → k < l.name → slice_index_or l.shapes k no_shape ≡ shape_of l.p k;
}
