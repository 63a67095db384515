-- How far few layers reach.
use Rattle.std.proofs.Common.{pos, negsuc, ◌≤ℤ◌, Bool, true, false, arith}
use Rattle.std.proofs.lemmas.Int.{ints}
use Rattle.ghost_rules.specs.declared.along.Along.{Along}
use Rattle.ghost_rules.specs.declared.along.Along.TheVariants.{Nothing, Intervals, Points, Own}
use Rattle.ghost_rules.specs.Windows.{AreFew, window_begin, window_end}

pub begins_near : (a : Along) (point : Bool) → AreFew a → (negsuc 7 ≤ℤ window_begin a point) × (window_begin a point ≤ℤ pos 1)
begins_near Nothing point few = (omega (arith, ints), omega (arith, ints))
begins_near (Intervals n) false few = (omega (arith, ints), omega (arith, ints))
begins_near (Intervals n) true few = (omega (arith, ints), omega (arith, ints))
begins_near (Points n) point few = (omega (arith, ints), omega (arith, ints))
begins_near Own point few = (omega (arith, ints), omega (arith, ints))

pub ends_near : (a : Along) (point : Bool) → AreFew a → (pos 0 ≤ℤ window_end a point false) × (window_end a point false ≤ℤ pos 9)
ends_near Nothing false few = (omega (arith, ints), omega (arith, ints))
ends_near Nothing true few = (omega (arith, ints), omega (arith, ints))
ends_near (Intervals n) point few = (omega (arith, ints), omega (arith, ints))
ends_near (Points n) false few = (omega (arith, ints), omega (arith, ints))
ends_near (Points n) true few = (omega (arith, ints), omega (arith, ints))
ends_near Own false few = (omega (arith, ints), omega (arith, ints))
ends_near Own true few = (omega (arith, ints), omega (arith, ints))
