-- A detailed task that reads what another writes stands behind it.
use Rattle.std.proofs.Common.{◌≡◌, ◌∙◌, ◌<◌, ◌⊎◌, inl, inr, ℕ, List, Bool, true, false, Some, take, sym, refl, arith, subst, eqb-true, ltb-true}
use Rattle.std.specs.Prelude.{slice_get, ◌==◌, ◌&&◌, nat_lt, if◌then◌else◌}
use Rattle.std.specs.List.{list_any}
use Rattle.std.specs.Option.{is_some}
use Rattle.std.proofs.lemmas.Bool.{and_parts, cases_order, true_from_ne_false}
use Rattle.uts_geom.specs.Lists.{any_at, at_place, of_option, from_take, get-take, found_at, place_of_found}
use Rattle.kernel_ast.specs.declared.expression.Store.{Store}
use Rattle.kernel_ast.specs.declared.expression.Store.TheVariants as store
use Rattle.problem_types.specs.Lists.{task_list, is_of_field, is_reduces, reduction_write}
use Rattle.problem_types.specs.declared.problem.Problem.{Problem}
use Rattle.problem_types.specs.declared.problem.Task.{Task}
use Rattle.problem_types.specs.declared.problem.Require.{Require}
use Rattle.problem_types.specs.declared.problem.What.{What}
use Rattle.problem_types.specs.declared.problem.What.TheVariants as what
use Rattle.problem_types.specs.declared.problem.Write.{Write}
use Rattle.problem_types.specs.declared.problem.WriteKind.{WriteKind}
use Rattle.problem_types.specs.declared.problem.WriteKind.TheVariants as write
use Rattle.task_rules.specs.Lines.{reduces, wanted_name, wanted_level}
use Rattle.task_check.specs.declared.fault.FaultKind.TheVariants as kind
use Rattle.task_check.specs.Lines.{FindsNothing, IsWrittenBefore}
use Rattle.task_check.specs.Faults.{of_require, of_write}
use Rattle.task_check.specs.First.{IsFaultless}
use Rattle.task_check.specs.Plan.{Detail, OnPatch, Combining, Slot, Old, OldNumber, New, Part, Number, patch_of, line_is, is_line_of, is_last_writer, has_variable, has_number, is_in_window, is_of_number, is_part_of, wants, reads}
use Rattle.graph_compiler.specs.Plan.{is_writing}
use Rattle.graph_compiler.proofs.ValidDetails.{IsBy, Precedes, task_of, precedes_by_task, parts_precede, writer_is}

-- the line reduces the name
abbrev reduces_it : ℕ → Write → Bool
reduces_it name w = (w.name == name) && is_reduces w.kind

-- The lines that reduce a name in an accepted list.
module _ (p : Problem) (faultless : IsFaultless p) (list : ℕ) (of_two : list < 2) where
  abbrev tasks : List Task
  tasks = task_list p list

  -- no two tasks reduce it
  pub reduced_once : (name a b : ℕ) (s t : Task) → a < b → slice_get tasks a ≡ Some s → slice_get tasks b ≡ Some t →
      is_some (reduction_write s name) ≡ true → is_some (reduction_write t name) ≡ true → ⊥
  reduced_once name a b s t before at_a at_b first second =
      let line = place_of_found (reduces_it name) t.writes second in
      let two = and_parts (line.1.name == name) (is_reduces line.1.kind) line.3 in
      let named : line.1.name ≡ name = eqb-true line.1.name name two.0 in
      let earlier : reduces (take b tasks) line.1.name ≡ true =
      any_at (λ (u : Task). is_some (reduction_write u line.1.name)) (take b tasks) a s (get-take tasks b a before ∙ at_a)
      (subst (λ (n : ℕ). is_some (reduction_write s n) ≡ true) (sym named) first) in
      by_kind line.0 line.1 line.1.kind refl two.1 earlier (λ (k : WriteKind). λ is before_it. faultless line.1.line kind.DoubleCompute
      (of_write list b t line.0 line.1 kind.DoubleCompute (record { task = record { of_two = of_two; stands = at_b }; stands = line.2 })
      (subst (λ (x : WriteKind). IsWrittenBefore (take b tasks) t (take line.0 t.writes) line.1.name x) (sym is) before_it)))
    where
      by_kind : (j : ℕ) (w : Write) (k : WriteKind) → w.kind ≡ k → is_reduces k ≡ true → reduces (take b tasks) w.name ≡ true →
          ((x : WriteKind) → w.kind ≡ x → IsWrittenBefore (take b tasks) t (take j t.writes) w.name x → ⊥) → ⊥
      by_kind j w (write.Reduces c) is reducing earlier twice = twice (write.Reduces c) is (inl earlier)
      by_kind j w write.Computes is reducing earlier twice = absurd cc
      by_kind j w write.Modifies is reducing earlier twice = absurd cc

  -- the task of a line that reduces it
  reducer : (name place line : ℕ) → is_line_of tasks (λ w. is_reduces w.kind) name place line ≡ true →
      (t : Task) × (slice_get tasks place ≡ Some t) × (is_some (reduction_write t name) ≡ true)
  reducer name place line is =
      let t = of_option (λ (t : Task). line_is t.writes (reduces_it name) line) (slice_get tasks place) is in
      let w = of_option (reduces_it name) (slice_get t.0.writes line) t.2 in
      (t.0, t.1, found_at (reduces_it name) t.0.writes line w.0 w.1 w.2)

  -- a task that requires the new number of a reduction stands behind the one that reduces
  number_before : (name writer line reader at_line : ℕ) (t : Task) (r : Require) → slice_get tasks reader ≡ Some t → slice_get t.requirements at_line ≡ Some r →
      r.store ≡ store.New → r.what ≡ what.Number name → is_line_of tasks (λ w. is_reduces w.kind) name writer line ≡ true → writer < reader
  number_before name writer line reader at_line t r at at_r new number is =
      let none_missing : (reduces (take reader tasks) name ≡ false → ⊥) = (λ (missing : reduces (take reader tasks) name ≡ false).
      faultless r.line kind.MissingCompute (of_require list reader t at_line r kind.MissingCompute (record { task = record { of_two = of_two; stands = at }; stands = at_r })
      (subst (λ (s : Store). FindsNothing p list reader t s r.what) (sym new)
      (subst (λ (w : What). FindsNothing p list reader t store.New w) (sym number) missing)))) in
      let some = true_from_ne_false (reduces (take reader tasks) name) none_missing in
      let earlier = at_place (λ (u : Task). is_some (reduction_write u name)) (take reader tasks) some in
      let there = from_take tasks reader earlier.0 earlier.1 earlier.2 in
      let one = reducer name writer line is in
      by_order earlier.0 there.0 (λ before. reduced_once name writer earlier.0 one.0 earlier.1 before one.1 there.1 one.2 earlier.3)
      (λ after. reduced_once name earlier.0 writer earlier.1 one.0 after there.1 one.1 earlier.3 one.2) (cases_order writer earlier.0)
    where
      by_order : (k : ℕ) → k < reader → (writer < k → ⊥) → (k < writer → ⊥) → (writer ≡ k) ⊎ ((writer < k) ⊎ (k < writer)) → writer < reader
      by_order k below not_before not_after (inl same) = omega arith
      by_order k below not_before not_after (inr (inl before)) = absurd (not_before before)
      by_order k below not_before not_after (inr (inr after)) = absurd (not_after after)

  -- the place of the task that writes a slot of a variable is before that of the task that reads it
  variable_before : (name material level reader writer line l m patch : ℕ) (s : Store) →
      has_variable tasks reader s name material level (New writer line l m patch) ≡ true → writer < reader
  variable_before name material level reader writer line l m patch store.Old has = absurd cc
  variable_before name material level reader writer line l m patch store.New has =
      let first = and_parts (l == level) ((m == material)
      && (is_last_writer tasks reader name material level writer && is_line_of tasks (λ w. is_of_field w.kind) name writer line)) has in
      let second = and_parts (m == material) (is_last_writer tasks reader name material level writer && is_line_of tasks (λ w. is_of_field w.kind) name writer line) first.1 in
      let third = and_parts (is_last_writer tasks reader name material level writer) (is_line_of tasks (λ w. is_of_field w.kind) name writer line) second.1 in
      ltb-true writer reader (and_parts (nat_lt writer reader) _ third.0).0

  -- what a task wants, where a detailed task writes it, is of an earlier task
  module _ (reader : ℕ) (t : Task) (at : slice_get tasks reader ≡ Some t) (at_line : ℕ) (r : Require) (at_r : slice_get t.requirements at_line ≡ Some r) where
    of_variable : (s : Slot) (d : Detail) → IsBy s d → (st : Store) (name material level : ℕ) → has_variable tasks reader st name material level s ≡ true → task_of d < reader
    of_variable (New writer line l m patch) d by st name material level has =
        subst (λ (x : Detail). task_of x < reader) (sym by) (variable_before name material level reader writer line l m patch st has)
    of_variable (Old n l m patch) d by st name material level has = absurd by
    of_variable (OldNumber n) d by st name material level has = absurd by
    of_variable (Part writer line l m patch) d by store.Old name material level has = absurd cc
    of_variable (Part writer line l m patch) d by store.New name material level has = absurd cc
    of_variable (Number writer line) d by store.Old name material level has = absurd cc
    of_variable (Number writer line) d by store.New name material level has = absurd cc

    of_number : (s : Slot) (d : Detail) → IsBy s d → (name : ℕ) (st : Store) → r.store ≡ st → r.what ≡ what.Number name → has_number tasks st name s ≡ true → task_of d < reader
    of_number (Number writer line) d by name store.New new number has =
        subst (λ (x : Detail). task_of x < reader) (sym by) (number_before name writer line reader at_line t r at at_r new number has)
    of_number (Number writer line) d by name store.Old new number has = absurd cc
    of_number (Old n l m patch) d by name st new number has = absurd by
    of_number (OldNumber n) d by name st new number has = absurd by
    of_number (New writer line l m patch) d by name store.Old new number has = absurd cc
    of_number (New writer line l m patch) d by name store.New new number has = absurd cc
    of_number (Part writer line l m patch) d by name store.Old new number has = absurd cc
    of_number (Part writer line l m patch) d by name store.New new number has = absurd cc

    wanted_before : (level material patch : ℕ) (s : Slot) (d : Detail) → IsBy s d → wants p tasks reader t level material patch s r ≡ true → task_of d < reader
    wanted_before level material patch s d by wanted = by_what r.what refl wanted
      where
        variable : (w : What) → (has_variable tasks reader r.store (wanted_name w) material (wanted_level w level) s && is_in_window p t r level patch (patch_of s)) ≡ true → task_of d < reader
        variable w holds = of_variable s d by r.store (wanted_name w) material (wanted_level w level)
            (and_parts (has_variable tasks reader r.store (wanted_name w) material (wanted_level w level) s) (is_in_window p t r level patch (patch_of s)) holds).0

        by_what : (w : What) → r.what ≡ w → (if is_of_number w
            then has_number tasks r.store (wanted_name w) s
            else has_variable tasks reader r.store (wanted_name w) material (wanted_level w level) s && is_in_window p t r level patch (patch_of s)) ≡ true → task_of d < reader
        by_what (what.Same var layers) is holds = variable (what.Same var layers) holds
        by_what (what.Coarse var layers) is holds = variable (what.Coarse var layers) holds
        by_what (what.Fine var) is holds = variable (what.Fine var) holds
        by_what (what.Number name) is holds = of_number s d by name r.store refl is holds

  combining_behind : (s : Slot) (d : Detail) (task line : ℕ) → IsBy s d → is_part_of task line s ≡ true → Precedes d (Combining task line)
  combining_behind (Part other other_line l m patch) d task line by part =
      let same : other ≡ task = eqb-true other task (and_parts (other == task) (other_line == line) part).0 in
      subst (λ (x : Detail). Precedes x (Combining task line)) (sym by)
      (subst (λ (n : ℕ). Precedes (OnPatch other l m patch) (Combining n line)) same (parts_precede other l m patch line))
  combining_behind (Old n l m patch) d task line by part = absurd by
  combining_behind (OldNumber n) d task line by part = absurd by
  combining_behind (New writer other l m patch) d task line by part = absurd cc
  combining_behind (Number writer other) d task line by part = absurd cc

  pub readers_behind : (d e : Detail) (s : Slot) → is_writing tasks d s ≡ true → reads p tasks e s ≡ true → Precedes d e
  readers_behind d (OnPatch task level material patch) s writing reading =
      let t = of_option (λ (t : Task). list_any (wants p tasks task t level material patch s) t.requirements) (slice_get tasks task) reading in
      let r = at_place (wants p tasks task t.0 level material patch s) t.0.requirements t.2 in
      precedes_by_task d (OnPatch task level material patch) (wanted_before task t.0 t.1 r.0 r.1 r.2 level material patch s d (writer_is tasks d s writing) r.3)
  readers_behind d (Combining task line) s writing reading = combining_behind s d task line (writer_is tasks d s writing) reading
