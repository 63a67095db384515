-- What stands at the end of a step is what stands after all its tasks.
use Rattle.std.specs.Prelude.{◌≡◌, ℕ, zero, suc, length}
use Rattle.std.proofs.Common.{ap}
use native.Mathlib.Nat.{le_refl}
use Rattle.std.proofs.lemmas.List.{take_all}
use Rattle.uts_geom.specs.declared.index.Index.{Index}
use Rattle.problem_types.specs.declared.problem.Problem.{Problem}
use Rattle.uts_model.specs.WholeField.{State, nothing, after_tasks, end_of_step, task_count, state_at, field_at, reduction_at}

pub state_at_end : (p : Problem) (step : ℕ) → state_at p step (task_count p step) ≡ end_of_step p step
unfolding end_of_step
state_at_end p zero = ap (after_tasks p 0 nothing) (take_all (length p.init) p.init (le_refl _))
state_at_end p (suc n) = ap (after_tasks p (suc n) (end_of_step p n)) (take_all (length p.timestep) p.timestep (le_refl _))

pub field_at_end : (p : Problem) (step name material level : ℕ) (i : Index) →
    field_at p step (task_count p step) name material level i ≡ (end_of_step p step).field name material level i
field_at_end p step name material level i = ap (λ (s : State). s.field name material level i) (state_at_end p step)

pub reduction_at_end : (p : Problem) (step name : ℕ) → reduction_at p step (task_count p step) name ≡ (end_of_step p step).reduction name
reduction_at_end p step name = ap (λ (s : State). s.reduction name) (state_at_end p step)
