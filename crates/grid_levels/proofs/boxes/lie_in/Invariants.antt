use Rattle.std.proofs.Common.{take}
use Rattle.std.specs.Prelude.{All}
use Rattle.problem_types.specs.Levels.{LiesIn, cells_of}
use Rattle.grid_levels.proofs.boxes.lie_in.Given as goal

abbrev pub invariant-loop-patch : goal.invariant-loop-patch
invariant-loop-patch l = All (λ q. LiesIn (cells_of q) l.outer) (take l.patch-index l.patches)
