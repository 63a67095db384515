-- Levels of the grid: their boxes and patches as sets of cells.
use Rattle.std.specs.Prelude.{◌≡◌, ℕ, ◌<◌, ◌≤◌, Bool, length, All, AllPairs, Any, IsTrue, slice_index}
use Rattle.uts_geom.specs.Spans.{is_inside}
use Rattle.uts_geom.specs.declared.index.Index.{Index}
use Rattle.uts_geom.specs.declared.span.Span.{Span}
use Rattle.uts_geom.specs.declared.centring.Centring.{Centring}
use Rattle.uts_geom.specs.declared.centring.Centring.TheVariants.{Cell}
use Rattle.problem_types.specs.Regions.{is_in_spaces, space_of, spaces_on}
use Rattle.problem_types.specs.declared.problem.BoxLine.{BoxLine}
use Rattle.problem_types.specs.declared.problem.Level.{Level}

-- the cells of a box or of a patch
abbrev pub cells_of : BoxLine → Span
cells_of b = space_of Cell b

-- the index lies in the index space of the level
abbrev pub is_on_level : Centring → Level → Index → Bool
is_on_level c l i = is_in_spaces (spaces_on c l) i

-- low bounds below high bounds on each axis
abbrev pub IsProper : BoxLine → Type 0
IsProper b = (axis : ℕ) → axis < 3 → slice_index b.lo axis < slice_index b.hi axis

-- each index of one span is one of the other
abbrev pub LiesIn : Span → Span → Type 0
LiesIn inner outer = (i : Index) → IsTrue (is_inside inner i) → IsTrue (is_inside outer i)

-- no index is one of both spans
abbrev pub AreApart : Span → Span → Type 0
AreApart a b = (i : Index) → IsTrue (is_inside a i) → IsTrue (is_inside b i) → ⊥

-- The boxes and the patches of a level have cells, each patch lies in a box, no two patches share a cell, and each cell of the boxes
-- lies in a patch.
pub record IsTiled (l : Level) : Type 0 where
  pub boxes : All IsProper l.boxes
  pub patches : All IsProper l.patches
  pub inside : All (λ q. Any (λ b. LiesIn (cells_of q) (cells_of b)) l.boxes) l.patches
  pub apart : AllPairs (λ q r. AreApart (cells_of q) (cells_of r)) l.patches
  pub filled : (i : Index) → IsTrue (is_on_level Cell l i) → Any (λ q. IsTrue (is_inside (cells_of q) i)) l.patches

-- the bounds of a box or of a patch are at most 4,096
abbrev pub HasNearBounds : BoxLine → Type 0
HasNearBounds b = (axis : ℕ) → axis < 3 → (slice_index b.lo axis ≤ 4096) × (slice_index b.hi axis ≤ 4096)

-- a level of one box and at most 1,024 patches, with bounds of at most 4,096
pub record KeepsGridLimits (l : Level) : Type 0 where
  pub one_box : length l.boxes ≡ 1
  pub few_patches : length l.patches ≤ 1024
  pub boxes : All HasNearBounds l.boxes
  pub patches : All HasNearBounds l.patches
