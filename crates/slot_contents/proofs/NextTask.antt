-- What one task more of a step's list leaves: the numbers of its lines' kernels.
use Rattle.std.proofs.Common.{◌≡◌, ◌∙◌, ◌+◌, ℕ, ℤ, List, [], ◌∷◌, ◌++◌, true, Option, Some, take, fold, ap}
use Rattle.std.specs.Prelude.{slice_get, if◌then◌else◌}
use Rattle.std.specs.Option.{option_map_or}
use Rattle.std.proofs.lemmas.Bool.{cond-true}
use Rattle.std.proofs.lemmas.List.{take_more}
use Rattle.std.proofs.lemmas.List.Sums.{fold-append}
use Rattle.std.proofs.lemmas.Option.{get_or_from_slice_get, slice_get_within}
use Rattle.uts_geom.specs.declared.index.Index.{Index}
use Rattle.problem_types.specs.Lists.{centring_of, field_write, fold_of, outside_of, reduction_write, runs_on, task_list}
use Rattle.problem_types.specs.Regions.{is_in_space}
use Rattle.problem_types.specs.declared.problem.Problem.{Problem}
use Rattle.problem_types.specs.declared.problem.Task.{Task}
use Rattle.problem_types.specs.declared.problem.Write.{Write}
use Rattle.reductions.specs.Folding.{all_combined}
use Rattle.uts_model.specs.WholeField.{State, after_task, before_step, contributions, field_at, reduction_at, state_at, unset}
use Rattle.slot_contents.specs.Contents.{kernel_number}

module _ (p : Problem) (step task : ℕ) (t : Task) (stands : slice_get (task_list p step) task ≡ Some t) where
  abbrev tasks : List Task
  tasks = task_list p step

  abbrev old : State
  old = before_step p step

  abbrev so_far : State
  so_far = state_at p step task

  state_next : state_at p step (task + 1) ≡ after_task p step old so_far t
  state_next =
      ap (fold (after_task p step old) (unset p))
      (take_more tasks task t (slice_get_within tasks task t stands) ∙ ap (λ (u : Task). take task tasks ++ u ∷ []) (get_or_from_slice_get tasks task t t stands))
      ∙ fold-append (after_task p step old) (unset p) (take task tasks) (t ∷ [])

  module _ (name : ℕ) (w : Write) where
    module _ (material level : ℕ) (i : Index) (within : is_in_space p level (centring_of p name) i ≡ true) (runs : runs_on t material level ≡ true) where
      abbrev kernel : Write → ℤ
      kernel v = kernel_number p step task v level material i

      abbrev by_line : ℤ
      by_line = option_map_or kernel (field_write t name) (so_far.field name material level i)

      abbrev inside : ℤ
      inside = if runs_on t material level then by_line else so_far.field name material level i

      -- the variable of a line that computes or modifies
      pub field_next : field_write t name ≡ Some w → field_at p step (task + 1) name material level i ≡ kernel_number p step task w level material i
      unfolding after_task
      field_next found =
          ap (λ (s : State). s.field name material level i) state_next
          ∙ (cond-true (is_in_space p level (centring_of p name) i) inside (outside_of p name) within
          ∙ (cond-true (runs_on t material level) by_line (so_far.field name material level i) runs
          ∙ ap (λ (o : Option Write). option_map_or kernel o (so_far.field name material level i)) found))

    -- the reduction of a line that reduces
    pub reduction_next : reduction_write t name ≡ Some w → reduction_at p step (task + 1) name ≡ all_combined (fold_of p name) (contributions p step old so_far t w)
    unfolding after_task
    reduction_next found =
        ap (λ (s : State). s.reduction name) state_next
        ∙ ap (λ (o : Option Write). option_map_or (λ v. all_combined (fold_of p name) (contributions p step old so_far t v)) o (so_far.reduction name)) found
