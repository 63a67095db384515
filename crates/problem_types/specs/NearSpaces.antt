-- The index spaces of boxes within the limits of the grid: their coordinates go from 0 to 4,097.
use Rattle.std.proofs.Common.{◌≡◌, ◌≤◌, ℕ, ℤ, pos, ◌≤ℤ◌, List, [], ◌∷◌, map, Bool, true, false, subst, arith}
use Rattle.std.specs.Prelude.{All, slice_index}
use Rattle.std.proofs.lemmas.Int.{ints}
use Rattle.std.proofs.lemmas.List.Elements.{All-head}
use Rattle.uts_geom.specs.Spans.{index, IsNear, IsNearNumber, IsNearSpan}
use Rattle.uts_geom.specs.declared.centring.Centring.{Centring}
use Rattle.uts_geom.specs.declared.index.Index.{Index}
use Rattle.uts_geom.specs.declared.span.Span.{Span}
use Rattle.problem_types.specs.Levels.{HasNearBounds, KeepsGridLimits, cells_of}
use Rattle.problem_types.specs.Regions.{end_of, space_of, spaces_on}
use Rattle.problem_types.specs.declared.problem.BoxLine.{BoxLine}
use Rattle.problem_types.specs.declared.problem.Level.{Level}

-- the coordinates of indexes on levels within the limits
abbrev pub IsOnAxis : ℤ → Type 0
IsOnAxis n = (pos 0 ≤ℤ n) × (n ≤ℤ pos 4097)

pub record IsOnGrid (i : Index) : Type 0 where
  pub x : IsOnAxis i.x
  pub y : IsOnAxis i.y
  pub z : IsOnAxis i.z

-- the corners of a span are on the grid
pub record IsOnGridSpan (s : Span) : Type 0 where
  pub lo : IsOnGrid s.lo
  pub hi : IsOnGrid s.hi

-- ---- they are near

pub near_axis : (n : ℤ) → IsOnAxis n → IsNearNumber n
near_axis n on = (omega (arith, ints, on.0), omega (arith, ints, on.1))

pub near_index : (i : Index) → IsOnGrid i → IsNear i
near_index i on = record { x = near_axis i.x on.x; y = near_axis i.y on.y; z = near_axis i.z on.z }

pub near_span : (s : Span) → IsOnGridSpan s → IsNearSpan s
near_span s on = record { lo = near_index s.lo on.lo; hi = near_index s.hi on.hi }

-- ---- boxes

low_on_axis : (n : ℕ) → n ≤ 4096 → IsOnAxis (pos n)
low_on_axis n near = (omega (arith, ints), omega (arith, ints))

end_on_axis : (point : Bool) (n : ℕ) → n ≤ 4096 → IsOnAxis (end_of point n)
end_on_axis true n near = (omega (arith, ints), omega (arith, ints))
end_on_axis false n near = (omega (arith, ints), omega (arith, ints))

-- a box or a patch with its high bound besides on some axes
pub bounds_on_grid : (b : BoxLine) (x y z : Bool) → HasNearBounds b →
    IsOnGridSpan (record {
      lo = (cells_of b).lo;
      hi = index (end_of x (slice_index b.hi 0)) (end_of y (slice_index b.hi 1)) (end_of z (slice_index b.hi 2));
    })
bounds_on_grid b x y z near =
    let on_x = near 0 (omega arith) in
    let on_y = near 1 (omega arith) in
    let on_z = near 2 (omega arith) in
    record {
      lo = record { x = low_on_axis _ on_x.0; y = low_on_axis _ on_y.0; z = low_on_axis _ on_z.0 };
      hi = record { x = end_on_axis x _ on_x.1; y = end_on_axis y _ on_y.1; z = end_on_axis z _ on_z.1 };
    }

pub space_on_grid : (c : Centring) (b : BoxLine) → HasNearBounds b → IsOnGridSpan (space_of c b)
space_on_grid c b near = bounds_on_grid b _ _ _ near

pub space_near : (c : Centring) (b : BoxLine) → HasNearBounds b → IsNearSpan (space_of c b)
space_near c b near = near_span (space_of c b) (space_on_grid c b near)

-- the index space of the only box
pub only_on_grid : (c : Centring) (boxes : List BoxLine) (s : Span) → All HasNearBounds boxes → map (space_of c) boxes ≡ s ∷ [] → IsOnGridSpan s
only_on_grid c [] s near one = absurd cc
only_on_grid c (b ∷ boxes) s near one =
    let same : space_of c b ≡ s = cc in
    subst IsOnGridSpan same (space_on_grid c b (All-head HasNearBounds b boxes near))

-- the index space of a level
pub level_on_grid : (c : Centring) (l : Level) (s : Span) → KeepsGridLimits l → spaces_on c l ≡ s ∷ [] → IsOnGridSpan s
level_on_grid c l s limits one = only_on_grid c l.boxes s limits.boxes one

pub level_near : (c : Centring) (l : Level) (s : Span) → KeepsGridLimits l → spaces_on c l ≡ s ∷ [] → IsNearSpan s
level_near c l s limits one = near_span s (level_on_grid c l s limits one)
