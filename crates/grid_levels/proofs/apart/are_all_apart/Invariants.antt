use Rattle.std.proofs.Common.{take}
use Rattle.std.specs.Prelude.{AllPairs}
use Rattle.problem_types.specs.Levels.{AreApart, cells_of}
use Rattle.grid_levels.proofs.apart.are_all_apart.Given as goal

abbrev pub invariant-loop-i : goal.invariant-loop-i
invariant-loop-i l = AllPairs (λ q r. AreApart (cells_of q) (cells_of r)) (take l.i l.patches)
