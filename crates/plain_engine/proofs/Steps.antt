-- What stands at the end of a step, and its text.
use Rattle.std.proofs.Common.{◌≡◌, ◌∙◌, ℕ, zero, suc, ◌+◌, ap, sym, refl, add-one}
use Rattle.problem_types.specs.Lists.{task_list}
use Rattle.problem_types.specs.declared.problem.Problem.{Problem}
use Rattle.uts_model.specs.WholeField.{State, after_tasks, end_of_step, before_step}
use Rattle.uts_model.specs.Dump.{shown_at, step_text}
use Rattle.uts_model.specs.Ends.{state_at_end}
use Rattle.dump_text.specs.Supplies.{shown_by, HasAllKept}
use Rattle.plain_engine.specs.Held.{numbers_of_row, held_rows, held_numbers}
use Rattle.plain_engine.proofs.Alike.{SuppliesOf, step_text-supplied}

pub end_of_step-is : (p : Problem) (step : ℕ) → end_of_step p step ≡ after_tasks p step (before_step p step) (task_list p step)
unfolding end_of_step
end_of_step-is p zero = refl
end_of_step-is p (suc n) = refl

-- what stands before a step is what the step before left
pub before_next : (p : Problem) (step : ℕ) → before_step p (step + 1) ≡ end_of_step p step
before_next p step = ap (before_step p) (add-one step)

has_all_kept : (p : Problem) (step : ℕ) (state : State) → HasAllKept p step (held_rows p state) (held_numbers state)
has_all_kept p step state = λ place keep below. record {
  variable = λ declared k f within j at inside. refl;
  reduction = λ other. refl;
}

supplies_end : (p : Problem) (step : ℕ) (state : State) → state ≡ end_of_step p step →
    SuppliesOf (held_rows p state) (held_numbers state) (shown_at p step)
supplies_end p step state is =
    let same = is ∙ sym (state_at_end p step) in
    record {
      same_rows = λ name material level y z has. ap (λ (s : State). numbers_of_row p s name material level y z) same;
      same_numbers = λ name has. ap (λ (s : State). s.reduction name) same;
    }

-- the text of a step by the warehouse at its end
pub step_text-held : (p : Problem) (step : ℕ) (state : State) → state ≡ end_of_step p step →
    step_text p (shown_by (held_rows p state) (held_numbers state)) step ≡ step_text p (shown_at p step) step
step_text-held p step state is =
    step_text-supplied p step (held_rows p state) (held_numbers state) (shown_at p step) (supplies_end p step state is)
    (has_all_kept p step state)
