-- Kept counts of touches that are right.
use Rattle.std.specs.Prelude.{◌≡◌, ◌*◌, ◌≤◌, List, All, Option, IfSome}
use Rattle.problem_types.specs.declared.problem.Problem.{Problem}
use Rattle.task_check.specs.Reaches.{touch_count}
use Rattle.task_check.specs.declared.plan.kept.Kept.{Kept}

-- the count is that of these windows
pub record IsRight (p : Problem) (k : Kept) : Type 0 where
  pub count : k.count ≡ touch_count p k.level k.reach k.centring
  pub few : k.count ≤ 1024 * 1024

abbrev pub AreRight : Problem → List (Option Kept) → Type 0
AreRight p kept = All (λ o. IfSome o (IsRight p)) kept
