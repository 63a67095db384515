-- The refinement ratios of an accepted problem's levels.
use Rattle.std.proofs.Common.{◌≡◌, ◌≤◌, ℕ, zero, suc, Option, Some, None, inl, inr, refl, ap, arith}
use Rattle.std.specs.Prelude.{slice_get}
use Rattle.std.specs.Option.{option_map_or}
use Rattle.problem_types.specs.Regions.{ratio_of}
use Rattle.problem_types.specs.declared.problem.Level.{Level}
use Rattle.problem_types.specs.declared.problem.Problem.{Problem}
use Rattle.task_check.specs.Bounds.{IsBounded}
use Rattle.uts_model.specs.Spaces.{IsRatio, good_ratio}

pub small_ratio : (ratio : ℕ) → IsRatio ratio → ratio ≤ 4
small_ratio ratio (inl one) = omega (arith, one)
small_ratio ratio (inr (inl two)) = omega (arith, two)
small_ratio ratio (inr (inr four)) = omega (arith, four)

-- also where there is no such level
pub any_ratio : (p : Problem) (level : ℕ) → IsBounded p → IsRatio (ratio_of p level)
any_ratio p level bounds = by_level (slice_get p.levels level) refl
  where
    by_level : (o : Option Level) → slice_get p.levels level ≡ o → IsRatio (option_map_or (λ (m : Level). m.ratio) o 1)
    by_level None at = inl refl
    by_level (Some l) at = good_ratio level l (bounds.levels level l at).good.ratio
