-- Moments of a run, and where kernels run.
use Rattle.std.specs.Prelude.{ℕ, zero, suc, ◌≤◌}
use Rattle.kernel_ast.specs.Value.{Environment}
use Rattle.kernel_ast.specs.declared.expression.Store.{Store}
use Rattle.kernel_ast.specs.declared.expression.Store.TheVariants.{Old, New}
use Rattle.problem_types.specs.declared.problem.Problem.{Problem}
use Rattle.uts_model.specs.Evaluable.{IsEvaluable}
use Rattle.uts_model.specs.Grids.{IsOnLevel}
use Rattle.uts_model.specs.WholeField.{State, nothing, environment, state_at, task_count}
use Rattle.uts_model.specs.declared.moments.Moment.{Moment}
use Rattle.uts_model.specs.declared.moments.Moment.TheVariants.{BeforeSteps, InStep}
use Rattle.uts_model.specs.declared.moments.Place.{Place}

-- what stands at a moment
unfoldable pub state_of : Problem → Moment → State
state_of p BeforeSteps = nothing
state_of p (InStep step tasks) = state_at p step tasks

-- the step has so many tasks
abbrev pub IsMoment : Problem → Moment → Type 0
IsMoment p BeforeSteps = Unit {0}
IsMoment p (InStep step tasks) = tasks ≤ task_count p step

-- the end of the step before
abbrev pub end_before : Problem → ℕ → Moment
end_before p zero = BeforeSteps
end_before p (suc n) = InStep n (task_count p n)

-- when the numbers that a kernel reads from a store stood
abbrev pub moment_of : Place → Store → Moment
moment_of place Old = end_before place.problem.now place.step
moment_of place New = InStep place.step place.tasks

abbrev pub environment_at : Place → Environment
environment_at place =
    environment place.problem.now place.step (state_of place.problem.now (moment_of place Old))
    (state_of place.problem.now (moment_of place New)) place.site.material place.site.level place.site.index

-- A kernel of the step's tasks runs at the place, or a later one.
pub record IsPlace (place : Place) : Type 0 where
  pub evaluable : IsEvaluable place.problem.now
  pub tasks : place.tasks ≤ task_count place.problem.now place.step
  pub on_level : IsOnLevel place.problem.now place.site.level place.site.index
