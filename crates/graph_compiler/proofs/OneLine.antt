-- In an accepted list each slot stands once, a task writes a variable by one line, and one line reduces a reduction.
use Rattle.std.proofs.Common.{◌≡◌, ◌∙◌, ◌<◌, ◌⊎◌, inl, inr, ℕ, List, Bool, true, Some, take, ap, sym, refl, subst}
use Rattle.std.specs.Prelude.{slice_get, ◌==◌, ◌&&◌}
use Rattle.std.specs.List.{list_any}
use Rattle.std.specs.Option.{is_some}
use Rattle.std.proofs.lemmas.Bool.{and_from, cases_order, eq-eqb}
use Rattle.uts_geom.specs.Lists.{any_at, get-take, found_at}
use Rattle.problem_types.specs.Form.{IsProblemInForm}
use Rattle.problem_types.specs.Lists.{is_computes, is_of_field, is_reduces, reduction_write, task_list}
use Rattle.problem_types.specs.declared.problem.Problem.{Problem}
use Rattle.problem_types.specs.declared.problem.Task.{Task}
use Rattle.problem_types.specs.declared.problem.Write.{Write}
use Rattle.problem_types.specs.declared.problem.WriteKind.{WriteKind}
use Rattle.problem_types.specs.declared.problem.WriteKind.TheVariants as write
use Rattle.task_rules.specs.Lines.{is_modifies}
use Rattle.task_check.specs.declared.fault.FaultKind.TheVariants as kind
use Rattle.task_check.specs.Faults.{of_write}
use Rattle.task_check.specs.First.{IsAccepted, IsFaultless}
use Rattle.task_check.specs.Lines.{IsWrittenBefore}
use Rattle.task_check.specs.LinesAt.{IsLineAt, line_there}
use Rattle.task_check.specs.Plan.{is_line_of}
use Rattle.graph_compiler.specs.Slots.{AreOnce}
use Rattle.graph_compiler.proofs.Standing.{slots_stand_once}
use Rattle.graph_compiler.proofs.ValidForward.{reduced_once}

module _ (p : Problem) (faultless : IsFaultless p) (list : ℕ) (of_two : list < 2) where
  abbrev tasks : List Task
  tasks = task_list p list

  -- two lines of one task that write one name
  module _ (place : ℕ) (t : Task) (at : slice_get tasks place ≡ Some t) (a b : ℕ) (before : a < b) (v w : Write)
      (at_a : slice_get t.writes a ≡ Some v) (at_b : slice_get t.writes b ≡ Some w) (one_name : v.name ≡ w.name) where
    earlier_line : (test : WriteKind → Bool) → test v.kind ≡ true → list_any (λ u. (u.name == w.name) && test u.kind) (take b t.writes) ≡ true
    earlier_line test passes = any_at (λ (u : Write). (u.name == w.name) && test u.kind) (take b t.writes) a v (get-take t.writes b a before ∙ at_a)
        (and_from (v.name == w.name) (test v.kind) (eq-eqb v.name w.name one_name) passes)

    written_before : IsWrittenBefore (take place tasks) t (take b t.writes) w.name w.kind → ⊥
    written_before = λ twice. faultless w.line kind.DoubleCompute
        (of_write list place t b w kind.DoubleCompute (record { task = record { of_two = of_two; stands = at }; stands = at_b }) twice)

    two_fields : is_of_field v.kind ≡ true → is_of_field w.kind ≡ true → ⊥
    two_fields first second = by_kinds v.kind w.kind refl refl first second
      where
        by_kinds : (k l : WriteKind) → v.kind ≡ k → w.kind ≡ l → is_of_field k ≡ true → is_of_field l ≡ true → ⊥
        by_kinds write.Computes write.Computes is also first second =
            written_before (subst (λ x. IsWrittenBefore (take place tasks) t (take b t.writes) w.name x) (sym also) (inr (inl (earlier_line is_computes (ap is_computes is)))))
        by_kinds write.Modifies write.Computes is also first second =
            written_before (subst (λ x. IsWrittenBefore (take place tasks) t (take b t.writes) w.name x) (sym also) (inr (inr (earlier_line is_modifies (ap is_modifies is)))))
        by_kinds write.Computes write.Modifies is also first second =
            written_before (subst (λ x. IsWrittenBefore (take place tasks) t (take b t.writes) w.name x) (sym also) (earlier_line is_computes (ap is_computes is)))
        by_kinds write.Modifies write.Modifies is also first second = faultless w.line kind.UnorderedModify
            (of_write list place t b w kind.UnorderedModify (record { task = record { of_two = of_two; stands = at }; stands = at_b })
            (also, inr (inl (earlier_line is_modifies (ap is_modifies is)))))
        by_kinds write.Computes (write.Reduces c) is also first second = absurd cc
        by_kinds write.Modifies (write.Reduces c) is also first second = absurd cc
        by_kinds (write.Reduces c) l is also first second = absurd cc

    two_numbers : is_reduces v.kind ≡ true → is_reduces w.kind ≡ true → ⊥
    two_numbers first second = by_kind w.kind refl second
      where
        by_kind : (l : WriteKind) → w.kind ≡ l → is_reduces l ≡ true → ⊥
        by_kind write.Computes also second = absurd cc
        by_kind write.Modifies also second = absurd cc
        by_kind (write.Reduces c) also second =
            written_before (subst (λ x. IsWrittenBefore (take place tasks) t (take b t.writes) w.name x) (sym also) (inr (earlier_line is_reduces first)))

  -- so two lines of one task that write one name are one
  one_line : (test : WriteKind → Bool) →
      ((place : ℕ) (t : Task) → slice_get tasks place ≡ Some t → (a b : ℕ) → a < b → (v w : Write) → slice_get t.writes a ≡ Some v → slice_get t.writes b ≡ Some w
      → v.name ≡ w.name → test v.kind ≡ true → test w.kind ≡ true → ⊥) →
      (name task a b : ℕ) → is_line_of tasks (λ w. test w.kind) name task a ≡ true → is_line_of tasks (λ w. test w.kind) name task b ≡ true → a ≡ b
  one_line test never name task a b is also =
      by_order (line_there tasks (λ w. test w.kind) name task a is) (line_there tasks (λ w. test w.kind) name task b also) (cases_order a b)
    where
      by_order : IsLineAt tasks (λ w. test w.kind) name task a → IsLineAt tasks (λ w. test w.kind) name task b → (a ≡ b) ⊎ ((a < b) ⊎ (b < a)) → a ≡ b
      by_order first second (inl same) = same
      by_order first second (inr (inl before)) =
          let task_same : second.t ≡ first.t = (let here = first.task_at in let there = second.task_at in cc) in
          let there : slice_get first.t.writes b ≡ Some second.w = subst (λ (u : Task). slice_get u.writes b ≡ Some second.w) task_same second.line_at in
          absurd (never task first.t first.task_at a b before first.w second.w first.line_at there (first.named ∙ sym second.named) first.passes second.passes)
      by_order first second (inr (inr after)) =
          let task_same : first.t ≡ second.t = (let here = first.task_at in let there = second.task_at in cc) in
          let there : slice_get second.t.writes a ≡ Some first.w = subst (λ (u : Task). slice_get u.writes a ≡ Some first.w) task_same first.line_at in
          absurd (never task second.t second.task_at b a after second.w first.w second.line_at there (second.named ∙ sym first.named) second.passes first.passes)

  one_field_line : (name task a b : ℕ) → is_line_of tasks (λ w. is_of_field w.kind) name task a ≡ true → is_line_of tasks (λ w. is_of_field w.kind) name task b ≡ true → a ≡ b
  one_field_line = one_line is_of_field (λ place t at a b before v w at_a at_b named. two_fields place t at a b before v w at_a at_b named)

  -- two lines of the list that reduce one name are one
  one_number_line : (name s a t b : ℕ) → is_line_of tasks (λ w. is_reduces w.kind) name s a ≡ true → is_line_of tasks (λ w. is_reduces w.kind) name t b ≡ true → (s ≡ t) × (a ≡ b)
  one_number_line name s a t b is also =
      by_order (line_there tasks (λ w. is_reduces w.kind) name s a is) (line_there tasks (λ w. is_reduces w.kind) name t b also) (cases_order s t)
    where
      reducing : (place line : ℕ) (l : IsLineAt tasks (λ w. is_reduces w.kind) name place line) → is_some (reduction_write l.t name) ≡ true
      reducing place line l = found_at (λ (w : Write). (w.name == name) && is_reduces w.kind) l.t.writes line l.w l.line_at
          (and_from (l.w.name == name) (is_reduces l.w.kind) (eq-eqb l.w.name name l.named) l.passes)

      by_order : IsLineAt tasks (λ w. is_reduces w.kind) name s a → IsLineAt tasks (λ w. is_reduces w.kind) name t b → (s ≡ t) ⊎ ((s < t) ⊎ (t < s)) → (s ≡ t) × (a ≡ b)
      by_order first second (inl same) = (
        same,
        one_line is_reduces (λ place t at a b before v w at_a at_b named. two_numbers place t at a b before v w at_a at_b named) name t a b
            (subst (λ (k : ℕ). is_line_of tasks (λ w. is_reduces w.kind) name k a ≡ true) same is) also,
      )
      by_order first second (inr (inl before)) =
          absurd (reduced_once p faultless list of_two name s t first.t second.t before first.task_at second.task_at (reducing s a first) (reducing t b second))
      by_order first second (inr (inr after)) =
          absurd (reduced_once p faultless list of_two name t s second.t first.t after second.task_at first.task_at (reducing t b second) (reducing s a first))

pub are_once : (p : Problem) (tasks : List Task) → IsProblemInForm p → IsAccepted p → (list : ℕ) × (list < 2) × (tasks ≡ task_list p list) → AreOnce p tasks
are_once p all form accepted which = subst (AreOnce p) (sym which.2) (record {
  slots = slots_stand_once p form accepted which.0 which.1;
  fields = one_field_line p accepted.faultless which.0 which.1;
  numbers = one_number_line p accepted.faultless which.0 which.1;
})
