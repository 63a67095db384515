-- When a level of the grid is good.
use Rattle.std.specs.Prelude.{◌≡◌, ℕ, ◌-◌, ◌<◌, ◌%◌, ◌⊎◌, All, Any, IfSome, length, slice_get, slice_index}
use Rattle.uts_geom.specs.declared.span.Span.{Span}
use Rattle.problem_types.specs.Regions.{coarse_index}
use Rattle.problem_types.specs.Levels.{cells_of, LiesIn, IsTiled, KeepsGridLimits}
use Rattle.problem_types.specs.declared.problem.BoxLine.{BoxLine}
use Rattle.problem_types.specs.declared.problem.Level.{Level}
use Rattle.problem_types.specs.declared.problem.Problem.{Problem}

-- the coarsest level has ratio 1, each other one 2 or 4
abbrev pub HasGoodRatio : ℕ → Level → Type 0
HasGoodRatio level l = (level ≡ 0 → l.ratio ≡ 1) × (0 < level → (l.ratio ≡ 2) ⊎ (l.ratio ≡ 4))

-- each bound of a box or of a patch is a multiple of the ratio
abbrev pub HasMultiples : ℕ → BoxLine → Type 0
HasMultiples ratio b = (axis : ℕ) → axis < 3 → (slice_index b.lo axis % ratio ≡ 0) × (slice_index b.hi axis % ratio ≡ 0)

-- the bounds of the boxes and of the patches of a level are multiples of its ratio
pub record AreMultiples (l : Level) : Type 0 where
  pub boxes : All (HasMultiples l.ratio) l.boxes
  pub patches : All (HasMultiples l.ratio) l.patches

-- a span, its corners divided by a ratio
abbrev pub divided : ℕ → Span → Span
divided ratio s = record { lo = coarse_index ratio s.lo; hi = coarse_index ratio s.hi }

-- each box of a level, divided by the level's ratio, lies in a box of the next coarser level
abbrev pub IsNested : Level → Level → Type 0
IsNested coarser l = All (λ b. Any (λ c. LiesIn (divided l.ratio (cells_of b)) (cells_of c)) coarser.boxes) l.boxes

-- what makes the level `l`, which stands at this place in the problem, a good one
pub record IsGood (p : Problem) (level : ℕ) (l : Level) : Type 0 where
  pub ratio : HasGoodRatio level l
  pub tiled : IsTiled l
  pub multiples : 0 < level → AreMultiples l
  pub nested : 0 < level → IfSome (slice_get p.levels (level - 1)) (λ coarser. IsNested coarser l)

-- the level of this number is good
abbrev pub IsGoodLevel : Problem → ℕ → Type 0
IsGoodLevel p level = IfSome (slice_get p.levels level) (IsGood p level)

-- The problem has the level, and the level keeps the limits of the grid, as does the next coarser one where there is one.
pub record IsWithinLimits (p : Problem) (level : ℕ) : Type 0 where
  pub here : level < length p.levels
  pub limits : IfSome (slice_get p.levels level) KeepsGridLimits
  pub coarser : 0 < level → IfSome (slice_get p.levels (level - 1)) KeepsGridLimits
