use Rattle.std.proofs.Common.{take}
use Rattle.std.specs.Prelude.{All}
use Rattle.problem_types.specs.Levels.{AreApart, cells_of}
use Rattle.grid_levels.proofs.apart.is_apart_from_each.Given as goal

abbrev pub invariant-loop-other : goal.invariant-loop-other
invariant-loop-other l = All (λ q. AreApart (cells_of q) l.patch) (take l.other-index l.others)
