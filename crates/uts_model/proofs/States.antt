-- What stands at a moment, by the last task before it.
use Rattle.std.proofs.Common.{◌≡◌, ◌∙◌, ap, sym, refl, ℕ, zero, suc, ℤ, pos, ◌+◌, List, [], ◌∷◌, Bool, true, false, cond, Option, Some, None, fold, take}
use Rattle.std.specs.Prelude.{slice_get}
use Rattle.std.specs.Option.{option_map, option_map_or}
use Rattle.std.proofs.lemmas.List.Sums.{fold_more}
use Rattle.std.proofs.lemmas.Option.{get_or_from_slice_get, slice_get_within}
use Rattle.uts_geom.specs.declared.index.Index.{Index}
use Rattle.kernel_ast.specs.Value.{Environment, value_of}
use Rattle.kernel_ast.specs.declared.expression.Expr.{Expr}
use Rattle.problem_types.specs.Lists.{task_list, runs_on, field_write, reduction_write, outside_of, centring_of, fold_of}
use Rattle.problem_types.specs.Regions.{is_in_space}
use Rattle.problem_types.specs.declared.problem.Problem.{Problem}
use Rattle.problem_types.specs.declared.problem.Task.{Task}
use Rattle.problem_types.specs.declared.problem.Write.{Write}
use Rattle.reductions.specs.Folding.{all_combined}
use Rattle.uts_model.specs.Ends.{state_at_end}
use Rattle.uts_model.specs.Kernels.{field_kernel}
use Rattle.uts_model.specs.Moments.{state_of, end_before}
use Rattle.uts_model.specs.WholeField.{State, unset, environment, contributions, after_task, before_step, state_at}
use Rattle.uts_model.specs.declared.moments.Moment.TheVariants.{BeforeSteps, InStep}

-- a fold over the first items, one more
pub fold_next : {A B : Type 0} (f : B → A → B) (a : B) (xs : List A) (k : ℕ) (x : A) → slice_get xs k ≡ Some x →
    fold f a (take (k + 1) xs) ≡ f (fold f a (take k xs)) x
fold_next f a xs k x at =
    fold_more f a xs k x (slice_get_within xs k x at) ∙ ap (f (fold f a (take k xs))) (get_or_from_slice_get xs k x x at)

-- the state that a step begins with
pub before_is : (p : Problem) (step : ℕ) → before_step p step ≡ state_of p (end_before p step)
unfolding state_of
before_is p zero = refl
before_is p (suc n) = sym (state_at_end p n)

-- before the first step all is 0
pub field_before : (p : Problem) (name material level : ℕ) (i : Index) → (state_of p BeforeSteps).field name material level i ≡ pos 0
unfolding state_of
field_before p name material level i = refl

pub reduction_before : (p : Problem) (name : ℕ) → (state_of p BeforeSteps).reduction name ≡ pos 0
unfolding state_of
reduction_before p name = refl

-- before the first task of a step
pub field_unset : (p : Problem) (step name material level : ℕ) (i : Index) → (state_of p (InStep step 0)).field name material level i ≡ outside_of p name
unfolding state_of
field_unset p step name material level i = refl

pub reduction_unset : (p : Problem) (step name : ℕ) → (state_of p (InStep step 0)).reduction name ≡ pos 0
unfolding state_of
reduction_unset p step name = refl

-- outside its index space a variable has its outside number
module _ (p : Problem) (step name material level : ℕ) (i : Index) (beside : is_in_space p level (centring_of p name) i ≡ false) where
  outside_after : (old new : State) (task : Task) → (after_task p step old new task).field name material level i ≡ outside_of p name
  unfolding after_task
  outside_after old new task = rw beside refl

  outside_stays : (old state : State) (tasks : List Task) → state.field name material level i ≡ outside_of p name →
      (fold (after_task p step old) state tasks).field name material level i ≡ outside_of p name
  outside_stays old state [] outside = outside
  outside_stays old state (task ∷ tasks) outside = outside_stays old (after_task p step old state task) tasks (outside_after old state task)

  pub field_outside : (tasks : ℕ) → (state_of p (InStep step tasks)).field name material level i ≡ outside_of p name
  unfolding state_of
  field_outside tasks = outside_stays (before_step p step) (unset p) (take tasks (task_list p step)) refl

-- what a task leaves of a variable at an index inside: the number of its kernel, or what stood
module _ (p : Problem) (step : ℕ) (old new : State) (task : Task) (name material level : ℕ) (i : Index) where
  sees : Environment
  sees = environment p step old new material level i

  by_run : (runs : Bool) (w : Option Write) (stood : ℤ) →
      cond runs (option_map_or (λ v. value_of v.expr sees) w stood) stood
      ≡ option_map_or (λ e. value_of e sees) (cond runs (option_map (λ v. v.expr) w) None) stood
  by_run true (Some w) stood = refl
  by_run true None stood = refl
  by_run false w stood = refl

  after_field : is_in_space p level (centring_of p name) i ≡ true →
      (after_task p step old new task).field name material level i
      ≡ option_map_or (λ e. value_of e (environment p step old new material level i)) (field_kernel task name material level) (new.field name material level i)
  unfolding after_task sees
  after_field inside = rw inside (by_run (runs_on task material level) (field_write task name) (new.field name material level i))

-- one task more
module _ (p : Problem) (step place : ℕ) (task : Task) (at : slice_get (task_list p step) place ≡ Some task) where
  state_more : state_of p (InStep step (place + 1))
      ≡ after_task p step (state_of p (end_before p step)) (state_of p (InStep step place)) task
  unfolding state_of
  state_more =
      fold_next (after_task p step (before_step p step)) (unset p) (task_list p step) place task at
      ∙ ap (λ (old : State). after_task p step old (state_at p step place) task) (before_is p step)

  pub field_written : (name material level : ℕ) (i : Index) (kernel : Expr) → is_in_space p level (centring_of p name) i ≡ true →
      field_kernel task name material level ≡ Some kernel →
      (state_of p (InStep step (place + 1))).field name material level i
      ≡ value_of kernel (environment p step (state_of p (end_before p step)) (state_of p (InStep step place)) material level i)
  field_written name material level i kernel inside found =
      let old = state_of p (end_before p step) in
      let new = state_of p (InStep step place) in
      ap (λ (s : State). s.field name material level i) state_more
      ∙ after_field p step old new task name material level i inside
      ∙ ap (λ (o : Option Expr). option_map_or (λ e. value_of e (environment p step old new material level i)) o (new.field name material level i)) found

  pub field_left : (name material level : ℕ) (i : Index) → is_in_space p level (centring_of p name) i ≡ true →
      field_kernel task name material level ≡ None →
      (state_of p (InStep step (place + 1))).field name material level i ≡ (state_of p (InStep step place)).field name material level i
  field_left name material level i inside found =
      let old = state_of p (end_before p step) in
      let new = state_of p (InStep step place) in
      ap (λ (s : State). s.field name material level i) state_more
      ∙ after_field p step old new task name material level i inside
      ∙ ap (λ (o : Option Expr). option_map_or (λ e. value_of e (environment p step old new material level i)) o (new.field name material level i)) found

  -- what a task leaves of a reduction
  reduction_more : (name : ℕ) (w : Option Write) → reduction_write task name ≡ w →
      (state_of p (InStep step (place + 1))).reduction name
      ≡ option_map_or (λ v. all_combined (fold_of p name) (contributions p step (state_of p (end_before p step)) (state_of p (InStep step place)) task v))
      w ((state_of p (InStep step place)).reduction name)
  unfolding after_task
  reduction_more name w found =
      let old = state_of p (end_before p step) in
      let new = state_of p (InStep step place) in
      ap (λ (s : State). s.reduction name) state_more
      ∙ ap (λ (o : Option Write). option_map_or (λ v. all_combined (fold_of p name) (contributions p step old new task v)) o (new.reduction name)) found

  pub reduction_written : (name : ℕ) (w : Write) → reduction_write task name ≡ Some w →
      (state_of p (InStep step (place + 1))).reduction name
      ≡ all_combined (fold_of p name) (contributions p step (state_of p (end_before p step)) (state_of p (InStep step place)) task w)
  reduction_written name w found = reduction_more name (Some w) found

  pub reduction_left : (name : ℕ) → reduction_write task name ≡ None →
      (state_of p (InStep step (place + 1))).reduction name ≡ (state_of p (InStep step place)).reduction name
  reduction_left name found = reduction_more name None found
