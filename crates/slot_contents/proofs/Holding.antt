-- A slot holds what stood before a task that has it, and outside its index space a variable stands at its outside number.
use Rattle.std.proofs.Common.{◌≡◌, ◌∙◌, ◌<◌, ◌+◌, ℕ, zero, suc, List, Bool, true, false, Some, take, ap, sym, refl, arith, subst, eqb-true, ltb-true}
use Rattle.std.specs.Prelude.{slice_get, ◌==◌, ◌&&◌, not, nat_lt}
use Rattle.std.specs.List.{list_any}
use Rattle.std.specs.Option.{is_some, option_map_or}
use Rattle.std.proofs.lemmas.Bool.{and_parts, false_from_ne_true, not-true}
use Rattle.uts_geom.specs.declared.index.Index.{Index}
use Rattle.uts_geom.specs.Lists.{from_take, get-drop}
use Rattle.kernel_ast.specs.declared.expression.Store.{Store}
use Rattle.kernel_ast.specs.declared.expression.Store.TheVariants as store
use Rattle.problem_types.specs.Lists.{is_of_field, is_reduces, outside_of, reduction_write, task_list}
use Rattle.problem_types.specs.declared.problem.Problem.{Problem}
use Rattle.problem_types.specs.declared.problem.Task.{Task}
use Rattle.task_rules.specs.Lines.{wanted_level, wanted_name}
use Rattle.task_check.specs.Plan.{Slot, Old, OldNumber, New, Part, Number, has_number, has_variable, is_last_writer, is_line_of, writes_variable}
use Rattle.uts_model.specs.WholeField.{State, before_step, field_at, reduction_at, state_at}
use Rattle.slot_contents.specs.Contents.{name_at, number_held, numbers_held, stood}
use Rattle.slot_contents.specs.Laws.{IsTaskOf, NumbersHoldWhatStood, OutsideStandsOutside, SlotsHoldWhatStood}
use Rattle.graph_compiler.specs.Slots.{AreOnce, SlotsStandOnce}
use Rattle.slot_contents.proofs.Earlier.{list_of, not_first, of_two, reduced_earlier, same_list}
use Rattle.task_check.specs.LinesAt.{is_line, line_there}
use Rattle.slot_contents.proofs.Lines.{found_line, name_of_line}
use Rattle.slot_contents.proofs.Listed.{passing}
use Rattle.slot_contents.proofs.Unwritten.{between, field_kept, outside_at, outside_at_end, reduction_kept}

-- ---- variables

same_field : (s : State) (n name m material l level : ℕ) (i : Index) → n ≡ name → m ≡ material → l ≡ level → s.field n m l i ≡ s.field name material level i
same_field s n name m material l level i one two three =
    ap (λ (x : ℕ). s.field x m l i) one ∙ (ap (λ (x : ℕ). s.field name x l i) two ∙ ap (λ (x : ℕ). s.field name material x i) three)

module _ (p : Problem) (step task name material level : ℕ) (i : Index) where
  abbrev tasks : List Task
  tasks = task_list p step

  -- what the last earlier writer left stands for the task
  writer_left : (writer line l m : ℕ) → has_variable tasks task store.New name material level (New writer line l m 0) ≡ true →
      field_at p step (writer + 1) (name_at tasks writer line) m l i ≡ field_at p step task name material level i
  writer_left writer line l m has =
      let first = and_parts (l == level) ((m == material)
      && (is_last_writer tasks task name material level writer && is_line_of tasks (λ w. is_of_field w.kind) name writer line)) has in
      let second = and_parts (m == material) (is_last_writer tasks task name material level writer && is_line_of tasks (λ w. is_of_field w.kind) name writer line) first.1 in
      let third = and_parts (is_last_writer tasks task name material level writer) (is_line_of tasks (λ w. is_of_field w.kind) name writer line) second.1 in
      let none = list_any (writes_variable name material level) (between p step (writer + 1) task) in
      let fourth = and_parts (nat_lt writer task) (option_map_or (writes_variable name material level) (slice_get tasks writer) false && not none) third.0 in
      let fifth = and_parts (option_map_or (writes_variable name material level) (slice_get tasks writer) false) (not none) fourth.1 in
      let below : writer < task = ltb-true writer task fourth.0 in
      let named : name_at tasks writer line ≡ name = name_of_line tasks (λ w. is_of_field w.kind) name writer line (line_there tasks (λ w. is_of_field w.kind) name writer line third.1) in
      same_field (state_at p step (writer + 1)) (name_at tasks writer line) name m material l level i named (eqb-true m material second.0) (eqb-true l level first.0)
      ∙ field_kept p step (writer + 1) task (omega (arith, below)) name material level i (not-true none fifth.1)

  by_slot : (at : Store) (s : Slot) → has_variable tasks task at name material level s ≡ true → numbers_held p step s i ≡ (stood p step task at).field name material level i
  by_slot store.Old (Old n l m patch) has =
      let first = and_parts (n == name) ((l == level) && (m == material)) has in
      let second = and_parts (l == level) (m == material) first.1 in
      same_field (before_step p step) n name m material l level i (eqb-true n name first.0) (eqb-true m material second.1) (eqb-true l level second.0)
  by_slot store.Old (OldNumber n) has = absurd cc
  by_slot store.Old (New writer line l m patch) has = absurd cc
  by_slot store.Old (Part writer line l m patch) has = absurd cc
  by_slot store.Old (Number writer line) has = absurd cc
  by_slot store.New (New writer line l m patch) has = writer_left writer line l m has
  by_slot store.New (Old n l m patch) has = absurd cc
  by_slot store.New (OldNumber n) has = absurd cc
  by_slot store.New (Part writer line l m patch) has = absurd cc
  by_slot store.New (Number writer line) has = absurd cc

pub slots_hold : SlotsHoldWhatStood
slots_hold p step task t at name material level s i here slot has owned = by_slot p step task name material level i at s has

pub outside_stands : OutsideStandsOutside
outside_stands p step task t level material r i here r_there variable outside = by_store r.store refl
  where
    by_step : (n : ℕ) → (n ≡ 0 → ⊥) → (before_step p n).field (wanted_name r.what) material (wanted_level r.what level) i ≡ outside_of p (wanted_name r.what)
    by_step zero not_zero = absurd (not_zero refl)
    by_step (suc n) not_zero = outside_at_end p (wanted_name r.what) material (wanted_level r.what level) i outside n

    by_store : (at : Store) → r.store ≡ at → (stood p step task at).field (wanted_name r.what) material (wanted_level r.what level) i ≡ outside_of p (wanted_name r.what)
    by_store store.Old is = by_step step (not_first p step task t here r r_there is)
    by_store store.New is = outside_at p (wanted_name r.what) material (wanted_level r.what level) i outside step task

-- ---- reductions

-- the tasks of a list that have lines which reduce one name are one
module _ (p : Problem) (step : ℕ) (once : AreOnce p (task_list p step)) (name : ℕ) where
  abbrev reduces_it : Task → Bool
  reduces_it t = is_some (reduction_write t name)

  one_reduces : (a b line : ℕ) (t : Task) → slice_get (task_list p step) a ≡ Some t → reduces_it t ≡ true →
      is_line_of (task_list p step) (λ w. is_reduces w.kind) name b line ≡ true → a ≡ b
  one_reduces a b line t at reducing is =
      let l = found_line (task_list p step) (λ w. is_reduces w.kind) name a t at reducing in
      (once.numbers name a l.0 b line (is_line (task_list p step) (λ w. is_reduces w.kind) name a l.0 l.1) is).0

  module _ (writer line task : ℕ) (is : is_line_of (task_list p step) (λ w. is_reduces w.kind) name writer line ≡ true) where
    none_between : list_any reduces_it (between p step (writer + 1) task) ≡ false
    none_between = false_from_ne_true (list_any reduces_it (between p step (writer + 1) task)) (λ some.
        let there = passing reduces_it (between p step (writer + 1) task) some in
        let part = from_take (task_list p step) task (writer + 1 + there.place) there.item (sym (get-drop (take task (task_list p step)) (writer + 1) there.place) ∙ there.at) in
        let same : writer + 1 + there.place ≡ writer = one_reduces (writer + 1 + there.place) writer line there.item part.1 there.passes is in
        omega (arith, same))

    -- an earlier task that reduces it is the one of the line
    below : list_any reduces_it (take task (task_list p step)) ≡ true → writer < task
    below earlier =
        let there = passing reduces_it (take task (task_list p step)) earlier in
        let part = from_take (task_list p step) task there.place there.item there.at in
        let same : there.place ≡ writer = one_reduces there.place writer line there.item part.1 there.passes is in
        omega (arith, same, part.0)

    number_left : list_any reduces_it (take task (task_list p step)) ≡ true → reduction_at p step (writer + 1) (name_at (task_list p step) writer line) ≡ reduction_at p step task name
    number_left earlier =
        ap (reduction_at p step (writer + 1)) (name_of_line (task_list p step) (λ w. is_reduces w.kind) name writer line (line_there (task_list p step) (λ w. is_reduces w.kind) name writer line is))
        ∙ reduction_kept p step (writer + 1) task (let less = below earlier in omega (arith, less)) name none_between

-- what stands once in the list of a task
pub once_of : (p : Problem) (step task : ℕ) (t : Task) → SlotsStandOnce → IsTaskOf p step task t → AreOnce p (task_list p step)
once_of p step task t stand_once here = subst (AreOnce p) (same_list p step) (stand_once p (list_of step) here.form here.accepted (of_two step))

pub numbers_hold : SlotsStandOnce → NumbersHoldWhatStood
numbers_hold stand_once p step task t r s here r_there number slot has = by_slot r.store s refl has
  where
    once : AreOnce p (task_list p step)
    once = once_of p step task t stand_once here

    by_slot : (at : Store) (s : Slot) → r.store ≡ at → has_number (task_list p step) at (wanted_name r.what) s ≡ true → number_held p step s ≡ (stood p step task at).reduction (wanted_name r.what)
    by_slot store.Old (OldNumber n) is has = ap (before_step p step).reduction (eqb-true n (wanted_name r.what) has)
    by_slot store.Old (Old n l m patch) is has = absurd cc
    by_slot store.Old (New writer line l m patch) is has = absurd cc
    by_slot store.Old (Part writer line l m patch) is has = absurd cc
    by_slot store.Old (Number writer line) is has = absurd cc
    by_slot store.New (Number writer line) is has =
        number_left p step once (wanted_name r.what) writer line task has (reduced_earlier p step task t here r r_there is number)
    by_slot store.New (Old n l m patch) is has = absurd cc
    by_slot store.New (OldNumber n) is has = absurd cc
    by_slot store.New (New writer line l m patch) is has = absurd cc
    by_slot store.New (Part writer line l m patch) is has = absurd cc
