use Rattle.std.proofs.Common.{arith}
use Rattle.std.proofs.lemmas.Int.{ints, to_z-of_z}
use Rattle.uts_geom.proofs.span.contains.Goals as goal
use Rattle.uts_geom.proofs.span.contains.Goals.{then-is_between, else-is_between}

pub returns-then-is_between-2 : goal.returns-then-is_between-2
returns-then-is_between-2 c =
    elim c.if-is_between.branch [
      | then-is_between w ↦ first_of (grind (arith, to_z-of_z, c.is_between.ensures, c.is_between-then-is_between-2.ensures, w.is_between-then-is_between.ensures), grind (arith, ints, c.is_between.ensures, c.is_between-then-is_between-2.ensures, w.is_between-then-is_between.ensures))
      | else-is_between w ↦ absurd cc
    ]

pub returns-else-is_between-2 : goal.returns-else-is_between-2
returns-else-is_between-2 c =
    elim c.if-is_between.branch [
      | then-is_between w ↦ first_of (grind (arith, to_z-of_z, c.is_between.ensures, w.is_between-then-is_between.ensures), grind (arith, ints, c.is_between.ensures, w.is_between-then-is_between.ensures))
      | else-is_between w ↦ first_of (grind (arith, to_z-of_z, c.is_between.ensures), grind (arith, ints, c.is_between.ensures))
    ]
