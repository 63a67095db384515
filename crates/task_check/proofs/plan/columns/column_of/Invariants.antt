use Rattle.std.proofs.Common.{◌≡◌, ◌<◌, ℕ, length}
use Rattle.uts_geom.specs.Spans.{coordinate}
use Rattle.patch_regions.specs.Regions.{owned_span}
use Rattle.task_check.specs.Columns.{HasBounds}
use Rattle.task_check.proofs.plan.columns.column_of.Given as goal

abbrev pub invariant-loop-patch : goal.invariant-loop-patch
invariant-loop-patch l = record {
  low_long : length l.column.low ≡ 1024;
  high_long : length l.column.high ≡ 1024;
  bounds : (patch : ℕ) → patch < l.patch →
      HasBounds l.column patch (coordinate l.axis (owned_span l.c l.l patch).lo) (coordinate l.axis (owned_span l.c l.l patch).hi);
}
