-- Levels within limits, and where indexes lie on them.
use Rattle.std.specs.Prelude.{◌≡◌, ℕ, ℤ, pos, ◌<◌, ◌≤◌, ◌⊎◌, ◌+ℤ◌, ◌*ℤ◌, Bool, true, false, Some, length, slice_get}
use Rattle.uts_geom.specs.Centrings.{is_point_like}
use Rattle.uts_geom.specs.Spans.{index, IsNearNumber, IsNear}
use Rattle.uts_geom.specs.declared.centring.Axis.TheVariants.{X, Y, Z}
use Rattle.uts_geom.specs.declared.centring.Centring.{Centring}
use Rattle.uts_geom.specs.declared.index.Index.{Index}
use Rattle.uts_geom.specs.declared.span.Span.{Span}
use Rattle.problem_types.specs.Levels.{KeepsGridLimits}
use Rattle.problem_types.specs.NearSpaces.{IsOnGrid}
use Rattle.problem_types.specs.declared.problem.Level.{Level}
use Rattle.problem_types.specs.declared.problem.Problem.{Problem}
use Rattle.uts_model.specs.Spaces.{IsRatio}

-- a level within the limits of the grid, of a ratio that levels may have
pub record IsBoundedLevel (l : Level) : Type 0 where
  pub limits : KeepsGridLimits l
  pub ratio : IsRatio l.ratio

pub record AreBoundedLevels (p : Problem) : Type 0 where
  pub few : length p.levels ≤ 4
  pub each : (level : ℕ) (l : Level) → slice_get p.levels level ≡ Some l → IsBoundedLevel l

-- the problem has the level, and the index may lie on it
pub record IsOnLevel (p : Problem) (level : ℕ) (i : Index) : Type 0 where
  pub level_there : level < length p.levels
  pub on_grid : IsOnGrid i

-- one coordinate, or two that no index on a level has
abbrev pub IsSameOrFarNumber : ℤ → ℤ → Type 0
IsSameOrFarNumber a b = (a ≡ b) ⊎ ((IsNearNumber a → ⊥) × (IsNearNumber b → ⊥))

-- one index, or two that lie on no level
abbrev pub IsSameOrFar : Index → Index → Type 0
IsSameOrFar i j = (i ≡ j) ⊎ ((IsNear i → ⊥) × (IsNear j → ⊥))

-- where the children of a coordinate end, on an axis of the next finer level
abbrev pub children_end : Bool → ℤ → ℤ → ℤ
children_end true ratio n = ratio *ℤ n +ℤ pos 1
children_end false ratio n = ratio *ℤ n +ℤ ratio

-- the children of an index, whether there are such indexes or not
abbrev pub all_children : ℤ → Centring → Index → Span
all_children ratio c i = record {
  lo = index (ratio *ℤ i.x) (ratio *ℤ i.y) (ratio *ℤ i.z);
  hi = index (children_end (is_point_like c X) ratio i.x) (children_end (is_point_like c Y) ratio i.y)
      (children_end (is_point_like c Z) ratio i.z);
}
