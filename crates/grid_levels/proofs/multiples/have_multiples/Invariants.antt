use Rattle.std.proofs.Common.{take}
use Rattle.std.specs.Prelude.{All}
use Rattle.grid_levels.specs.Good.{HasMultiples}
use Rattle.grid_levels.proofs.multiples.have_multiples.Given as goal

abbrev pub invariant-loop-b : goal.invariant-loop-b
invariant-loop-b l = All (HasMultiples l.ratio) (take l.b-index l.boxes)
