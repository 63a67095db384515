-- Which values have the contents of slots of a variable, of a reduction and of a part.
use Rattle.std.proofs.Common.{◌≡◌, ℕ, ℤ, true, subst}
use Rattle.std.specs.Prelude.{◌&&◌, ◌==◌}
use Rattle.std.proofs.lemmas.Bool.{and_parts, eqb-true}
use Rattle.kernel_ast.specs.declared.expression.Store.{Store}
use Rattle.kernel_ast.specs.declared.expression.Store.TheVariants as store
use Rattle.problem_types.specs.Lists.{centring_of, is_of_field, task_list}
use Rattle.problem_types.specs.declared.problem.Problem.{Problem}
use Rattle.problem_types.specs.declared.problem.Write.{Write}
use Rattle.task_check.specs.Plan.{Old, OldNumber, New, Part, Number, Slot, has_number, has_variable, is_last_writer, is_line_of, is_part_of, patch_of}
use Rattle.field_box.specs.Fields.{NumberedSpan}
use Rattle.field_box.specs.declared.value.Value.TheVariants as value
use Rattle.slot_contents.specs.Contents.{content_of, name_at, number_held, numbers_held, owned_on, span_held}
use Rattle.slot_contents.specs.Values.{content_of_value}
use Rattle.run_task.proofs.FieldsFit.{IsOf, not_field, not_number, of_content}
use Rattle.run_task.proofs.SlotsWanted.{line_named}

module _ (p : Problem) (step : ℕ) where
  -- a slot of a variable: the field is the variable on what the slot's patch owns
  pub fits_variable : (place : ℕ) (at : Store) (name material level : ℕ) (s : Slot) (f : NumberedSpan) →
      has_variable (task_list p step) place at name material level s ≡ true → content_of p step s ≡ content_of_value (value.Grid f) →
      IsOf (owned_on p level (patch_of s) (centring_of p name)) (numbers_held p step s) f
  fits_variable place store.Old name material level (Old n l m patch) f has same =
      let parts = and_parts (n == name) ((l == level) && (m == material)) has in
      let names : n ≡ name = eqb-true n name parts.0 in
      let levels : l ≡ level = eqb-true l level (and_parts (l == level) (m == material) parts.1).0 in
      subst (λ (k : ℕ). IsOf (owned_on p level patch (centring_of p k)) (numbers_held p step (Old n l m patch)) f) names
      (subst (λ (k : ℕ). IsOf (owned_on p k patch (centring_of p n)) (numbers_held p step (Old n l m patch)) f) levels
      (of_content (owned_on p l patch (centring_of p n)) (numbers_held p step (Old n l m patch)) f same))
  fits_variable place store.New name material level (New writer line l m patch) f has same =
      let tasks = task_list p step in
      let fields = λ (w : Write). is_of_field w.kind in
      let parts = and_parts (l == level) ((m == material) && (is_last_writer tasks place name material level writer && is_line_of tasks fields name writer line)) has in
      let rest = and_parts (m == material) (is_last_writer tasks place name material level writer && is_line_of tasks fields name writer line) parts.1 in
      let last = and_parts (is_last_writer tasks place name material level writer) (is_line_of tasks fields name writer line) rest.1 in
      let names : name_at tasks writer line ≡ name = (line_named tasks fields name writer line last.1).1 in
      let levels : l ≡ level = eqb-true l level parts.0 in
      let s = New writer line l m patch in
      subst (λ (k : ℕ). IsOf (owned_on p level patch (centring_of p k)) (numbers_held p step s) f) names
      (subst (λ (k : ℕ). IsOf (owned_on p k patch (centring_of p (name_at tasks writer line))) (numbers_held p step s) f) levels
      (of_content (owned_on p l patch (centring_of p (name_at tasks writer line))) (numbers_held p step s) f same))
  fits_variable place at name material level s f has same = absurd cc

  -- which has no number's content
  pub no_variable : (place : ℕ) (at : Store) (name material level : ℕ) (s : Slot) (n : ℤ) →
      has_variable (task_list p step) place at name material level s ≡ true → content_of p step s ≡ content_of_value (value.Number n) → ⊥
  no_variable place at name material level (Old m l k patch) n has same =
      not_number (span_held p (task_list p step) l patch (Old m l k patch)) (numbers_held p step (Old m l k patch)) n same
  no_variable place at name material level (New writer line l m patch) n has same =
      not_number (span_held p (task_list p step) l patch (New writer line l m patch)) (numbers_held p step (New writer line l m patch)) n same
  no_variable place store.Old name material level s n has same = cc
  no_variable place store.New name material level s n has same = cc

  -- a slot of a reduction
  pub fits_number : (at : Store) (name : ℕ) (s : Slot) (n : ℤ) → has_number (task_list p step) at name s ≡ true → content_of p step s ≡ content_of_value (value.Number n) →
      n ≡ number_held p step s
  fits_number at name (OldNumber m) n has same = cc
  fits_number at name (Number task line) n has same = cc
  fits_number store.Old name s n has same = absurd cc
  fits_number store.New name s n has same = absurd cc

  pub no_number : (at : Store) (name : ℕ) (s : Slot) (f : NumberedSpan) → has_number (task_list p step) at name s ≡ true →
      content_of p step s ≡ content_of_value (value.Grid f) → ⊥
  no_number at name (OldNumber m) f has same = not_field (number_held p step (OldNumber m)) f same
  no_number at name (Number task line) f has same = not_field (number_held p step (Number task line)) f same
  no_number store.Old name s f has same = cc
  no_number store.New name s f has same = cc

  -- a slot of a part
  pub fits_part : (task line : ℕ) (s : Slot) (n : ℤ) → is_part_of task line s ≡ true → content_of p step s ≡ content_of_value (value.Number n) → n ≡ number_held p step s
  fits_part task line (Part other other_line level material patch) n has same = cc
  fits_part task line s n has same = absurd cc

  pub no_part : (task line : ℕ) (s : Slot) (f : NumberedSpan) → is_part_of task line s ≡ true → content_of p step s ≡ content_of_value (value.Grid f) → ⊥
  no_part task line (Part other other_line level material patch) f has same = not_field (number_held p step (Part other other_line level material patch)) f same
  no_part task line s f has same = cc
