-- Tasks and their lines at their places.
use Rattle.std.specs.Prelude.{◌≡◌, ℕ, ◌<◌, slice_get, Some}
use Rattle.problem_types.specs.Lists.{task_list}
use Rattle.problem_types.specs.declared.problem.Problem.{Problem}
use Rattle.problem_types.specs.declared.problem.Task.{Task}
use Rattle.problem_types.specs.declared.problem.Require.{Require}
use Rattle.problem_types.specs.declared.problem.Write.{Write}

-- a task at its place in the init list, which is list 0, or in the timestep list, which is list 1
pub record IsTaskAt (p : Problem) (list place : ℕ) (t : Task) : Type 0 where
  pub of_two : list < 2
  pub stands : slice_get (task_list p list) place ≡ Some t

-- a requirement at its place among those of such a task
pub record IsRequireAt (p : Problem) (list place : ℕ) (t : Task) (at_line : ℕ) (r : Require) : Type 0 where
  pub task : IsTaskAt p list place t
  pub stands : slice_get t.requirements at_line ≡ Some r

-- a line that writes, at its place among those of such a task
pub record IsWriteAt (p : Problem) (list place : ℕ) (t : Task) (at_line : ℕ) (w : Write) : Type 0 where
  pub task : IsTaskAt p list place t
  pub stands : slice_get t.writes at_line ≡ Some w
