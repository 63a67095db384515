-- How much of a run stands before a moment, for the measure of the recursion.
use Rattle.std.proofs.Common.{ℕ, zero, suc, ◌+◌, ◌*◌, ◌≤◌, arith}
use Rattle.kernel_ast.specs.declared.expression.Store.{Store}
use Rattle.kernel_ast.specs.declared.expression.Store.TheVariants.{Old, New}
use Rattle.problem_types.specs.declared.problem.Problem.{Problem}
use Rattle.uts_model.specs.Moments.{IsMoment, IsPlace, end_before, moment_of}
use Rattle.uts_model.specs.WholeField.{task_count}
use Rattle.uts_model.specs.declared.moments.Moment.{Moment}
use Rattle.uts_model.specs.declared.moments.Moment.TheVariants.{BeforeSteps, InStep}
use Rattle.uts_model.specs.declared.moments.Place.{Place}

-- A step has at most 64 tasks, so each of its moments ranks above those of the step before.
abbrev pub rank : Moment → ℕ
rank BeforeSteps = 0
rank (InStep step tasks) = 65 * step + tasks + 1

rank-end_before : (p : Problem) (step : ℕ) → ((n : ℕ) → task_count p n ≤ 64) → rank (end_before p step) ≤ 65 * step
rank-end_before p zero few = omega arith
rank-end_before p (suc n) few = omega (arith, few n)

-- what a kernel reads stood before its own task
pub rank-moment_of : (place : Place) (store : Store) → IsPlace place → rank (moment_of place store) ≤ 65 * place.step + place.tasks + 1
rank-moment_of place Old at = omega (arith, rank-end_before place.problem.now place.step at.evaluable.few_tasks)
rank-moment_of place New at = omega arith

IsMoment-end_before : (p : Problem) (step : ℕ) → IsMoment p (end_before p step)
IsMoment-end_before p zero = tt
IsMoment-end_before p (suc n) = omega arith

pub IsMoment-moment_of : (place : Place) (store : Store) → IsPlace place → IsMoment place.problem.now (moment_of place store)
IsMoment-moment_of place Old at = IsMoment-end_before place.problem.now place.step
IsMoment-moment_of place New at = at.tasks
