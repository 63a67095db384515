-- What finding a number by recursion needs of a problem: lists and expressions are small, and levels are within limits.
use Rattle.std.specs.Prelude.{◌≡◌, ℕ, ◌<◌, ◌≤◌, ◌^◌, Some, slice_get, All}
use Rattle.kernel_ast.specs.Size.{depth_of}
use Rattle.problem_types.specs.Lists.{task_list}
use Rattle.problem_types.specs.declared.problem.Problem.{Problem}
use Rattle.problem_types.specs.declared.problem.Task.{Task}
use Rattle.uts_model.specs.Grids.{AreBoundedLevels}
use Rattle.uts_model.specs.WholeField.{task_count}

-- a task with shallow expressions, whose levels and materials have numbers of 32 bits
pub record IsEvaluableTask (t : Task) : Type 0 where
  pub shallow : All (λ w. depth_of w.expr ≤ 64) t.writes
  pub levels : All (λ level. level < 2 ^ 32) t.levels
  pub materials : All (λ material. material < 2 ^ 32) t.materials

pub record IsEvaluable (p : Problem) : Type 0 where
  pub levels : AreBoundedLevels p
  pub few_tasks : (step : ℕ) → task_count p step ≤ 64
  pub tasks : (step place : ℕ) (t : Task) → slice_get (task_list p step) place ≡ Some t → IsEvaluableTask t
