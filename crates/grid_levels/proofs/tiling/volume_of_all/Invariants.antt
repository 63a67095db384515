use Rattle.std.proofs.Common.{◌≡◌, take, length}
use Rattle.std.specs.List.{sum_by}
use Rattle.uts_geom.specs.Spans.{indexes_of}
use Rattle.problem_types.specs.Levels.{cells_of}
use Rattle.grid_levels.proofs.tiling.volume_of_all.Given as goal

abbrev pub invariant-loop-patch : goal.invariant-loop-patch
invariant-loop-patch l = l.total ≡ sum_by (λ q. length (indexes_of (cells_of q))) (take l.patch-index l.patches)
