-- How many indexes lie on a level: coordinates from 0 to 4,097.
use Rattle.std.proofs.Common.{◌≤◌, ◌<◌, ◌*◌, ℕ, ℤ, pos, negsuc, ◌≤ℤ◌, length, arith}
use Rattle.std.specs.Int.{int_gap, int_min, int_max}
use Rattle.std.proofs.Math.Nat.{mul-le-mul}
use Rattle.std.proofs.lemmas.Int.{ints, clamps}
use Rattle.uts_geom.specs.declared.span.Span.{Span}
use Rattle.uts_geom.specs.Spans.{indexes_of, width_of, height_of, depth_of, meet_of}
use Rattle.uts_geom.specs.declared.centring.Centring.{Centring}
use Rattle.uts_geom.specs.Places.{length-indexes}
use Rattle.problem_types.specs.Levels.{HasNearBounds, KeepsGridLimits}
use Rattle.problem_types.specs.Regions.{space_of}
use Rattle.problem_types.specs.declared.problem.BoxLine.{BoxLine}
use Rattle.problem_types.specs.declared.problem.Level.{Level}
use Rattle.problem_types.specs.NearSpaces.{IsOnGridSpan, space_on_grid}
use Rattle.patch_regions.specs.Regions.{owned_span}
use Rattle.patch_regions.specs.OnGrid.{owned_on_grid}

-- a span whose low corner is not below 0, and whose high corner is at most 4,097
pub record LiesOnGrid (s : Span) : Type 0 where
  pub x : (pos 0 ≤ℤ s.lo.x) × (s.hi.x ≤ℤ pos 4097)
  pub y : (pos 0 ≤ℤ s.lo.y) × (s.hi.y ≤ℤ pos 4097)
  pub z : (pos 0 ≤ℤ s.lo.z) × (s.hi.z ≤ℤ pos 4097)

small_gap : (low high : ℤ) → (pos 0 ≤ℤ low) × (high ≤ℤ pos 4097) → int_gap low high ≤ 4097
small_gap (pos a) (pos b) on = let to = on.1 in omega (arith, ints, to)
small_gap (pos a) (negsuc b) on = omega arith
small_gap (negsuc a) high on = let from = on.0 in absurd (omega (arith, ints, from))

-- such a span has at most 4,097 * 4,097 * 4,097 indexes
pub few_indexes : (s : Span) → LiesOnGrid s → length (indexes_of s) ≤ 68769820673
few_indexes s on =
    let area : height_of s * width_of s ≤ 4097 * 4097 = mul-le-mul (small_gap s.lo.y s.hi.y on.y) (small_gap s.lo.x s.hi.x on.x) in
    let room : depth_of s * (height_of s * width_of s) ≤ 4097 * (4097 * 4097) = mul-le-mul (small_gap s.lo.z s.hi.z on.z) area in
    omega (arith, length-indexes s, room)

-- what two spans have in common is on the grid where one of them is, and near where both are
from_max : (a b : ℤ) → pos 0 ≤ℤ b → pos 0 ≤ℤ int_max a b
from_max a b from = omega (arith, ints, clamps, from)

to_min : (a b : ℤ) → b ≤ℤ pos 4097 → int_min a b ≤ℤ pos 4097
to_min a b to = omega (arith, ints, clamps, to)

pub meet_on_grid : (a b : Span) → LiesOnGrid b → LiesOnGrid (meet_of a b)
meet_on_grid a b on = record {
  x = (from_max a.lo.x b.lo.x on.x.0, to_min a.hi.x b.hi.x on.x.1);
  y = (from_max a.lo.y b.lo.y on.y.0, to_min a.hi.y b.hi.y on.y.1);
  z = (from_max a.lo.z b.lo.z on.z.0, to_min a.hi.z b.hi.z on.z.1);
}

-- boxes and what patches own
lies : (s : Span) → IsOnGridSpan s → LiesOnGrid s
lies s on = record { x = (on.lo.x.0, on.hi.x.1); y = (on.lo.y.0, on.hi.y.1); z = (on.lo.z.0, on.hi.z.1) }

pub space_lies : (c : Centring) (b : BoxLine) → HasNearBounds b → LiesOnGrid (space_of c b)
space_lies c b near = lies (space_of c b) (space_on_grid c b near)

pub owned_lies : (c : Centring) (l : Level) (patch : ℕ) → KeepsGridLimits l → patch < length l.patches → LiesOnGrid (owned_span c l patch)
owned_lies c l patch limits below = lies (owned_span c l patch) (owned_on_grid c l patch limits below)
