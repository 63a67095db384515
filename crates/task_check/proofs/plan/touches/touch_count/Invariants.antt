use Rattle.std.proofs.Common.{◌≡◌, ◌≤◌, ◌*◌, Some}
use Rattle.std.specs.Prelude.{slice_get}
use Rattle.std.specs.List.{sum_by}
use Rattle.uts_geom.specs.Spans.{counted}
use Rattle.problem_types.specs.declared.problem.Level.{Level}
use Rattle.task_check.specs.Columns.{HasOwned}
use Rattle.task_check.specs.Reaches.{touched_count, reach_window}
use Rattle.task_check.proofs.plan.touches.touch_count.Given as goal

abbrev pub invariant-loop-patch : goal.invariant-loop-patch
invariant-loop-patch l = record {
  count : (here wanted : Level) → slice_get l.p.levels l.level ≡ Some here → HasOwned l.owned l.c wanted →
      l.sum ≡ sum_by (λ patch. touched_count l.c wanted (reach_window l.p l.reach l.c l.level here patch)) (counted 0 l.patch);
  few : l.sum ≤ 1024 * l.patch;
}
