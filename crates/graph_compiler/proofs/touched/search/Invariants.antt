use Rattle.std.proofs.Common.{◌≡◌, Some, map}
use Rattle.std.specs.Prelude.{slice_get}
use Rattle.uts_geom.specs.Spans.{counted}
use Rattle.problem_types.specs.declared.problem.Level.{Level}
use Rattle.patch_regions.specs.Regions.{touching_patches}
use Rattle.task_check.specs.Reaches.{reach_window}
use Rattle.graph_compiler.proofs.touched.search.Given as goal

abbrev pub invariant-loop-patch : goal.invariant-loop-patch
invariant-loop-patch l = (on : Level) → slice_get l.p.levels l.level ≡ Some on
    → l.patches ≡ map (λ patch. touching_patches l.centring l.wanted (reach_window l.p l.reach l.centring l.level on patch)) (counted 0 l.patch)
