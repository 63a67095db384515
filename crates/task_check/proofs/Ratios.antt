-- The ratios of a problem without faults.
use Rattle.std.proofs.Common.{◌≡◌, ◌<◌, ◌≤◌, ◌⊎◌, inl, inr, ℕ, zero, suc, Option, Some, None, arith, refl, subst}
use Rattle.std.specs.Prelude.{slice_get, IfSome}
use Rattle.std.specs.Option.{option_map_or}
use Rattle.std.proofs.lemmas.Bool.{cases_lt}
use Rattle.problem_types.specs.Regions.{ratio_of}
use Rattle.problem_types.specs.declared.problem.Problem.{Problem}
use Rattle.problem_types.specs.declared.problem.Level.{Level}
use Rattle.grid_levels.specs.Good.{IsGood, HasGoodRatio}
use Rattle.task_check.specs.declared.fault.FaultKind.TheVariants as kind
use Rattle.task_check.specs.Faults.{of_level}
use Rattle.task_check.specs.First.{IsFaultless}

-- a ratio from 1 to 4
pub record IsRatio (ratio : ℕ) : Type 0 where
  pub some : 0 < ratio
  pub few : ratio ≤ 4

good_ratio : (level : ℕ) (l : Level) → HasGoodRatio level l → IsRatio l.ratio
good_ratio zero l good = record { some = omega (arith, good.0 refl); few = omega (arith, good.0 refl) }
good_ratio (suc level) l good = by_case (good.1 (omega arith))
  where
    by_case : (l.ratio ≡ 2) ⊎ (l.ratio ≡ 4) → IsRatio l.ratio
    by_case (inl two) = record { some = omega arith; few = omega arith }
    by_case (inr four) = record { some = omega arith; few = omega arith }

ratio_not_not : (ratio : ℕ) → ((IsRatio ratio → ⊥) → ⊥) → IsRatio ratio
ratio_not_not ratio not_not = by_order (cases_lt 0 ratio) (cases_lt 4 ratio)
  where
    by_order : (0 < ratio) ⊎ (ratio ≤ 0) → (4 < ratio) ⊎ (ratio ≤ 4) → IsRatio ratio
    by_order (inl some) (inr few) = record { some = some; few = few }
    by_order (inr none) few = absurd (not_not (λ is. omega (arith, is.some, none)))
    by_order (inl some) (inl many) = absurd (not_not (λ is. omega (arith, is.few, many)))

pub ratio_within : (p : Problem) → IsFaultless p → (level : ℕ) → IsRatio (ratio_of p level)
ratio_within p faultless level = by_case (slice_get p.levels level) refl
  where
    by_case : (o : Option Level) → slice_get p.levels level ≡ o → IsRatio (option_map_or (λ l. l.ratio) o 1)
    by_case None at = record { some = omega arith; few = omega arith }
    by_case (Some l) at = ratio_not_not l.ratio (λ bad. faultless l.line kind.BadGrid (of_level level l kind.BadGrid at
        (λ good. bad (good_ratio level l (subst (λ o. IfSome o (IsGood p level)) at good).ratio))))
