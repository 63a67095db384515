-- What the limits of a checked problem give.
use Rattle.std.proofs.Common.{◌≡◌, ℕ, ◌≤◌, Option, Some, None, length, refl, arith}
use Rattle.std.specs.Prelude.{slice_get}
use Rattle.std.specs.Option.{option_map_or}
use Rattle.problem_types.specs.declared.problem.Problem.{Problem}
use Rattle.problem_types.specs.declared.problem.Level.{Level}
use Rattle.task_check.specs.Bounds.{IsBounded}

pub few_patches : (p : Problem) (level : ℕ) → IsBounded p → option_map_or (λ l. length l.patches) (slice_get p.levels level) 0 ≤ 1024
few_patches p level bounded = by_level (slice_get p.levels level) refl
  where
    by_level : (o : Option Level) → slice_get p.levels level ≡ o → option_map_or (λ l. length l.patches) o 0 ≤ 1024
    by_level None is = omega arith
    by_level (Some l) is = (bounded.levels level l is).limits.few_patches
