use Rattle.std.proofs.Common.{◌≡◌, ◌*◌, ◌≤◌, length}
use Rattle.std.specs.List.{sum_by}
use Rattle.uts_geom.specs.Spans.{counted}
use Rattle.task_check.specs.Plan.{patches_of}
use Rattle.graph_compiler.proofs.old_places.patches_below.Given as goal

abbrev pub invariant-loop-below : goal.invariant-loop-below
invariant-loop-below l = record {
  total : l.total ≡ sum_by (λ k. length (patches_of l.p k)) (counted 0 l.below);
  few : l.total ≤ l.below * 1024;
}
