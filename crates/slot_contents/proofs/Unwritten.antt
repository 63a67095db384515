-- What stands after tasks that do not write it: outside its index space a variable is its outside number after any tasks, and inside it
-- stays as it was; so does a reduction.
use Rattle.std.proofs.Common.{◌≡◌, ◌∙◌, ◌≤◌, ℕ, zero, suc, ℤ, List, [], ◌∷◌, ◌++◌, Bool, true, false, Option, Some, None, take, drop, fold, inl, inr, ap, sym, refl}
use Rattle.std.specs.Prelude.{◌&&◌, if◌then◌else◌}
use Rattle.std.specs.List.{list_any}
use Rattle.std.specs.Option.{is_some, option_map_or}
use Rattle.std.proofs.lemmas.Bool.{cases_Bool, cond-false, cond-true, or_parts}
use Rattle.std.proofs.lemmas.List.{take-append-drop, take-take}
use Rattle.std.proofs.lemmas.List.Sums.{fold-append}
use Rattle.uts_geom.specs.declared.index.Index.{Index}
use Rattle.kernel_ast.specs.Value.{value_of}
use Rattle.problem_types.specs.Lists.{centring_of, field_write, fold_of, outside_of, reduction_write, runs_on, task_list}
use Rattle.problem_types.specs.Regions.{is_in_space}
use Rattle.problem_types.specs.declared.problem.Problem.{Problem}
use Rattle.problem_types.specs.declared.problem.Task.{Task}
use Rattle.problem_types.specs.declared.problem.Write.{Write}
use Rattle.reductions.specs.Folding.{all_combined}
use Rattle.task_check.specs.Plan.{writes_variable}
use Rattle.uts_model.specs.WholeField.{State, after_task, before_step, contributions, end_of_step, environment, field_at, nothing, reduction_at, state_at, unset}

module _ (p : Problem) (step : ℕ) (old : State) where
  -- what some tasks leave of what stood
  abbrev pub left : State → List Task → State
  left new tasks = fold (after_task p step old) new tasks

  module _ (name material level : ℕ) (i : Index) where
    abbrev number_in : State → ℤ
    number_in s = s.field name material level i

    abbrev in_space : Bool
    in_space = is_in_space p level (centring_of p name) i

    abbrev here : Task → Bool
    here t = runs_on t material level

    abbrev kernel_here : State → Write → ℤ
    kernel_here new w = value_of w.expr (environment p step old new material level i)

    abbrev inside : State → Task → ℤ
    inside new t = if here t then option_map_or (kernel_here new) (field_write t name) (number_in new) else number_in new

    after_outside : (new : State) (t : Task) → in_space ≡ false → number_in (after_task p step old new t) ≡ outside_of p name
    unfolding after_task
    after_outside new t outside = cond-false in_space (inside new t) (outside_of p name) outside

    -- outside the index space
    pub outside_left : in_space ≡ false → (tasks : List Task) (new : State) → number_in new ≡ outside_of p name → number_in (left new tasks) ≡ outside_of p name
    outside_left outside [] new before = before
    outside_left outside (t ∷ ts) new before = outside_left outside ts (after_task p step old new t) (after_outside new t outside)

    by_write : (runs : Bool) (o : Option Write) (kernel : Write → ℤ) (n : ℤ) → (runs && is_some o) ≡ false → (if runs then option_map_or kernel o n else n) ≡ n
    by_write false o kernel n none = refl
    by_write true None kernel n none = refl
    by_write true (Some w) kernel n none = absurd cc

    after_unwritten : (new : State) (t : Task) → in_space ≡ true → writes_variable name material level t ≡ false → number_in (after_task p step old new t) ≡ number_in new
    unfolding after_task
    after_unwritten new t within unwritten =
        cond-true in_space (inside new t) (outside_of p name) within ∙ by_write (here t) (field_write t name) (kernel_here new) (number_in new) unwritten

    -- inside, where no task writes the variable on this material and level
    unwritten_left : in_space ≡ true → (tasks : List Task) (new : State) → list_any (writes_variable name material level) tasks ≡ false → number_in (left new tasks) ≡ number_in new
    unwritten_left within [] new none = refl
    unwritten_left within (t ∷ ts) new none =
        let parts = or_parts (writes_variable name material level t) (list_any (writes_variable name material level) ts) none in
        unwritten_left within ts (after_task p step old new t) parts.1 ∙ after_unwritten new t within parts.0

  module _ (name : ℕ) where
    -- the task reduces it
    abbrev pub reducing : Task → Bool
    reducing t = is_some (reduction_write t name)

    by_reduction : (o : Option Write) (value : Write → ℤ) (n : ℤ) → is_some o ≡ false → option_map_or value o n ≡ n
    by_reduction None value n none = refl
    by_reduction (Some w) value n none = absurd cc

    after_unreduced : (new : State) (t : Task) → reducing t ≡ false → (after_task p step old new t).reduction name ≡ new.reduction name
    unfolding after_task
    after_unreduced new t none =
        by_reduction (reduction_write t name) (λ w. all_combined (fold_of p name) (contributions p step old new t w)) (new.reduction name) none

    unreduced_left : (tasks : List Task) (new : State) → list_any reducing tasks ≡ false → (left new tasks).reduction name ≡ new.reduction name
    unreduced_left [] new none = refl
    unreduced_left (t ∷ ts) new none =
        let parts = or_parts (reducing t) (list_any reducing ts) none in
        unreduced_left ts (after_task p step old new t) parts.1 ∙ after_unreduced new t parts.0

-- ---- between two places of a step's list

-- the tasks of a step's list from a place up to a later one
abbrev pub between : Problem → (step earlier later : ℕ) → List Task
between p step earlier later = drop earlier (take later (task_list p step))

module _ (p : Problem) (step earlier later : ℕ) (in_order : earlier ≤ later) where
  abbrev tasks : List Task
  tasks = task_list p step

  abbrev from_earlier : State
  from_earlier = left p step (before_step p step) (state_at p step earlier) (between p step earlier later)

  split : take later tasks ≡ take earlier tasks ++ between p step earlier later
  split = sym (ap (λ (ts : List Task). ts ++ between p step earlier later) (sym (take-take earlier later tasks in_order)) ∙ take-append-drop earlier (take later tasks))

  state_from : state_at p step later ≡ from_earlier
  state_from = ap (fold (after_task p step (before_step p step)) (unset p)) split
      ∙ fold-append (after_task p step (before_step p step)) (unset p) (take earlier tasks) (between p step earlier later)

  -- a variable that no task between writes there
  pub field_kept : (name material level : ℕ) (i : Index) → list_any (writes_variable name material level) (between p step earlier later) ≡ false →
      field_at p step earlier name material level i ≡ field_at p step later name material level i
  field_kept name material level i none = elim (cases_Bool (is_in_space p level (centring_of p name) i)) [
    | inl within ↦
        sym (ap (λ (s : State). s.field name material level i) state_from
        ∙ unwritten_left p step (before_step p step) name material level i within (between p step earlier later) (state_at p step earlier) none)
    | inr outside ↦
        outside_left p step (before_step p step) name material level i outside (take earlier tasks) (unset p) refl
        ∙ sym (outside_left p step (before_step p step) name material level i outside (take later tasks) (unset p) refl)
  ]

  -- a reduction that no task between reduces
  pub reduction_kept : (name : ℕ) → list_any (λ t. is_some (reduction_write t name)) (between p step earlier later) ≡ false →
      reduction_at p step earlier name ≡ reduction_at p step later name
  reduction_kept name none =
      sym (ap (λ (s : State). s.reduction name) state_from
      ∙ unreduced_left p step (before_step p step) name (between p step earlier later) (state_at p step earlier) none)

-- ---- outside index spaces

-- at a place of a step's list, and at the end of a step
module _ (p : Problem) (name material level : ℕ) (i : Index) (outside : is_in_space p level (centring_of p name) i ≡ false) where
  pub outside_at : (step place : ℕ) → field_at p step place name material level i ≡ outside_of p name
  outside_at step place = outside_left p step (before_step p step) name material level i outside (take place (task_list p step)) (unset p) refl

  pub outside_at_end : (step : ℕ) → (end_of_step p step).field name material level i ≡ outside_of p name
  unfolding end_of_step
  outside_at_end zero = outside_left p 0 nothing name material level i outside p.init (unset p) refl
  outside_at_end (suc n) = outside_left p (suc n) (end_of_step p n) name material level i outside p.timestep (unset p) refl
