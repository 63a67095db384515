-- A problem in form that keeps the checker's limits is one whose numbers are found by recursion.
use Rattle.std.proofs.Common.{◌≡◌, ℕ, zero, suc, ◌≤◌, inl, inr, arith, List, length, Some}
use Rattle.std.specs.Prelude.{All, slice_get}
use Rattle.std.proofs.lemmas.Option.{slice_get_within, get_or_from_slice_get}
use Rattle.problem_types.specs.Form.{IsProblemInForm, IsTaskInForm, AreTasksInForm}
use Rattle.problem_types.specs.Lists.{task_list}
use Rattle.problem_types.specs.declared.problem.Level.{Level}
use Rattle.problem_types.specs.declared.problem.Problem.{Problem}
use Rattle.problem_types.specs.declared.problem.Task.{Task}
use Rattle.task_check.specs.Bounds.{IsBounded, IsBoundedTask, AreBoundedTasks}
use Rattle.uts_model.specs.Evaluable.{IsEvaluable, IsEvaluableTask}
use Rattle.uts_model.specs.Grids.{AreBoundedLevels}
use Rattle.uts_model.specs.Spaces.{good_ratio}

-- what holds of each item, at a place
holds_at : {A : Type 0} (P : A → Type 0) (xs : List A) (k : ℕ) (x : A) → All P xs → slice_get xs k ≡ Some x → P x
holds_at P xs k x each at = rw (get_or_from_slice_get xs k x x at) at (each k x (slice_get_within xs k x at))

pub bounded_levels : (p : Problem) → IsBounded p → AreBoundedLevels p
bounded_levels p bounds = record {
  few = bounds.few_levels;
  each = λ level l at. record {
    limits = (bounds.levels level l at).limits;
    ratio = good_ratio level l (bounds.levels level l at).good.ratio;
  };
}

module _ (p : Problem) (form : IsProblemInForm p) (bounds : IsBounded p) where
  tasks_in_form : (step : ℕ) → AreTasksInForm (length p.names) (task_list p step)
  tasks_in_form zero = form.init
  tasks_in_form (suc n) = form.timestep

  bounded_tasks : (step : ℕ) → AreBoundedTasks p (task_list p step)
  bounded_tasks zero = bounds.init
  bounded_tasks (suc n) = bounds.timestep

  task : (t : Task) → IsTaskInForm (length p.names) t → IsBoundedTask p t → IsEvaluableTask t
  task t in_form bounded = record {
    shallow = λ k d below. (in_form.writes k d below).expr.shallow;
    levels = λ k d below. omega (arith, bounded.levels k d below, bounds.few_levels);
    materials = λ k d below. omega (arith, bounded.materials k d below, bounds.materials);
  }

  pub evaluable : IsEvaluable p
  evaluable = record {
    levels = bounded_levels p bounds;
    few_tasks = λ step. (bounded_tasks step).few;
    tasks = λ step place t at. task t
        (holds_at (IsTaskInForm (length p.names)) (task_list p step) place t (tasks_in_form step).each at)
        (holds_at (IsBoundedTask p) (task_list p step) place t (bounded_tasks step).tasks at);
  }
