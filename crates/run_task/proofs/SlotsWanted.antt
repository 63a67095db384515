-- The slots that a task reads are told apart by their kind, name and level.
use Rattle.std.proofs.Common.{◌≡◌, ◌∙◌, ◌⊎◌, inl, inr, ℕ, Bool, true, false, cond, List, Option, Some, None, sym, ap, subst, eq-eqb}
use Rattle.std.specs.Prelude.{◌&&◌, ◌==◌, slice_get}
use Rattle.std.specs.List.{list_any}
use Rattle.std.specs.Option.{option_map_or}
use Rattle.std.proofs.lemmas.Bool.{and_from, and_parts, eqb-true}
use Rattle.std.proofs.lemmas.List.Folds.{Any-from_list_any}
use Rattle.kernel_ast.specs.declared.expression.Store.{Store}
use Rattle.kernel_ast.specs.declared.expression.Store.TheVariants as store
use Rattle.problem_types.specs.Lists.{is_of_field, is_reduces}
use Rattle.problem_types.specs.declared.problem.Problem.{Problem}
use Rattle.problem_types.specs.declared.problem.Require.{Require}
use Rattle.problem_types.specs.declared.problem.Task.{Task}
use Rattle.problem_types.specs.declared.problem.Write.{Write}
use Rattle.task_rules.specs.Lines.{wanted_level, wanted_name}
use Rattle.task_check.specs.Plan.{Old, OldNumber, New, Part, Number, OnPatch, Slot, has_number, has_variable, is_in_window, is_last_writer, is_line_of, is_of_number, line_is, patch_of, reads, wants}
use Rattle.graph_compiler.specs.Shown.{of_line, shown_slot}
use Rattle.graph_compiler.specs.declared.plan.Slot.{Slot as ShownSlot}
use Rattle.slot_contents.specs.Contents.{name_at}
use Rattle.run_task.specs.Putting.{is_reduction_in, is_variable_in}

-- by its kind, name and level a slot has a variable, and by its kind and name a reduction
abbrev pub is_about : ShownSlot → Store → (name level : ℕ) → Bool
is_about slot at name level = is_variable_in at slot.kind && ((slot.name == name) && (slot.level == level))

abbrev pub is_number_about : ShownSlot → Store → (name : ℕ) → Bool
is_number_about slot at name = is_reduction_in at slot.kind && (slot.name == name)

-- ---- the name of a line

named_line : (o : Option Write) (test : Write → Bool) (name : ℕ) → option_map_or (λ w. (w.name == name) && test w) o false ≡ true →
    (option_map_or (λ w. w.name) o 0 ≡ name)
named_line None test name is = absurd cc
named_line (Some w) test name is = eqb-true w.name name (and_parts (w.name == name) (test w) is).0

pub line_named : (tasks : List Task) (test : Write → Bool) (name task line : ℕ) → is_line_of tasks test name task line ≡ true →
    (of_line tasks task line (λ w. w.name) ≡ name) × (name_at tasks task line ≡ name)
line_named tasks test name task line = by_task (slice_get tasks task)
  where
    by_task : (o : Option Task) → option_map_or (λ t. line_is t.writes (λ w. (w.name == name) && test w) line) o false ≡ true →
        (option_map_or (λ t. option_map_or (λ w. w.name) (slice_get t.writes line) 0) o 0 ≡ name)
        × (option_map_or (λ (w : Write). w.name) (option_map_or (λ (t : Task). slice_get t.writes line) o None) 0 ≡ name)
    by_task None is = absurd cc
    by_task (Some t) is = let named = named_line (slice_get t.writes line) test name is in (named, named)

-- ---- what has a variable, and what has a number, is told by kind, name and level

pub variable_told : (tasks : List Task) (place : ℕ) (at : Store) (name material level : ℕ) (s : Slot) → has_variable tasks place at name material level s ≡ true →
    is_about (shown_slot tasks s) at name level ≡ true
variable_told tasks place store.Old name material level (Old n l m patch) has =
    let parts = and_parts (n == name) ((l == level) && (m == material)) has in
    and_from (n == name) (l == level) parts.0 (and_parts (l == level) (m == material) parts.1).0
variable_told tasks place store.New name material level (New writer line l m patch) has =
    let parts = and_parts (l == level) ((m == material) && (is_last_writer tasks place name material level writer && is_line_of tasks (λ w. is_of_field w.kind) name writer line)) has in
    let rest = and_parts (m == material) (is_last_writer tasks place name material level writer && is_line_of tasks (λ w. is_of_field w.kind) name writer line) parts.1 in
    let last = and_parts (is_last_writer tasks place name material level writer) (is_line_of tasks (λ w. is_of_field w.kind) name writer line) rest.1 in
    and_from (of_line tasks writer line (λ w. w.name) == name) (l == level)
    (eq-eqb (of_line tasks writer line (λ w. w.name)) name (line_named tasks (λ w. is_of_field w.kind) name writer line last.1).0) parts.0
variable_told tasks place at name material level s has = absurd cc

pub number_told : (tasks : List Task) (at : Store) (name : ℕ) (s : Slot) → has_number tasks at name s ≡ true → is_number_about (shown_slot tasks s) at name ≡ true
number_told tasks store.Old name (OldNumber n) has = has
number_told tasks store.New name (Number task line) has =
    eq-eqb (of_line tasks task line (λ w. w.name)) name (line_named tasks (λ w. is_reduces w.kind) name task line has).0
number_told tasks at name s has = absurd cc

-- ---- and the other way, for what some requirement wants

-- a slot that one requirement of a variable wants, for the material
told_variable : (tasks : List Task) (place : ℕ) (at other_at : Store) (name other_name material level other_level : ℕ) (s : Slot) →
    has_variable tasks place other_at other_name material other_level s ≡ true → is_about (shown_slot tasks s) at name level ≡ true →
    has_variable tasks place at name material level s ≡ true
told_variable tasks place store.Old store.Old name other_name material level other_level (Old n l m patch) wanted about =
    let parts = and_parts (n == other_name) ((l == other_level) && (m == material)) wanted in
    let same = and_parts (n == name) (l == level) about in
    and_from (n == name) ((l == level) && (m == material)) same.0
    (and_from (l == level) (m == material) same.1 (and_parts (l == other_level) (m == material) parts.1).1)
told_variable tasks place store.New store.New name other_name material level other_level (New writer line l m patch) wanted about =
    let fields = λ (w : Write). is_of_field w.kind in
    let parts = and_parts (l == other_level)
    ((m == material) && (is_last_writer tasks place other_name material other_level writer && is_line_of tasks fields other_name writer line)) wanted in
    let same = and_parts (of_line tasks writer line (λ w. w.name) == name) (l == level) about in
    let rest = and_parts (m == material) (is_last_writer tasks place other_name material other_level writer && is_line_of tasks fields other_name writer line) parts.1 in
    let last = and_parts (is_last_writer tasks place other_name material other_level writer) (is_line_of tasks fields other_name writer line) rest.1 in
    let names : other_name ≡ name =
    sym (line_named tasks fields other_name writer line last.1).0 ∙ eqb-true (of_line tasks writer line (λ w. w.name)) name same.0 in
    let levels : other_level ≡ level = sym (eqb-true l other_level parts.0) ∙ eqb-true l level same.1 in
    let both : (is_last_writer tasks place name material level writer && is_line_of tasks fields name writer line) ≡ true =
    subst (λ (k : ℕ). (is_last_writer tasks place name material k writer && is_line_of tasks fields name writer line) ≡ true) levels
    (subst (λ (k : ℕ). (is_last_writer tasks place k material other_level writer && is_line_of tasks fields k writer line) ≡ true) names rest.1) in
    and_from (l == level) ((m == material) && (is_last_writer tasks place name material level writer && is_line_of tasks fields name writer line)) same.1
    (and_from (m == material) (is_last_writer tasks place name material level writer && is_line_of tasks fields name writer line) rest.0 both)
told_variable tasks place at other_at name other_name material level other_level (Old n l m patch) wanted about = absurd cc
told_variable tasks place store.Old other_at name other_name material level other_level (OldNumber n) wanted about = absurd cc
told_variable tasks place store.New other_at name other_name material level other_level (OldNumber n) wanted about = absurd cc
told_variable tasks place at other_at name other_name material level other_level (New writer line l m patch) wanted about = absurd cc
told_variable tasks place store.Old other_at name other_name material level other_level (Part writer line l m patch) wanted about = absurd cc
told_variable tasks place store.New other_at name other_name material level other_level (Part writer line l m patch) wanted about = absurd cc
told_variable tasks place store.Old other_at name other_name material level other_level (Number writer line) wanted about = absurd cc
told_variable tasks place store.New other_at name other_name material level other_level (Number writer line) wanted about = absurd cc

told_number : (tasks : List Task) (at other_at : Store) (name other_name : ℕ) (s : Slot) →
    has_number tasks other_at other_name s ≡ true → is_number_about (shown_slot tasks s) at name ≡ true → has_number tasks at name s ≡ true
told_number tasks store.Old other_at name other_name (OldNumber n) wanted about = about
told_number tasks store.New store.New name other_name (Number task line) wanted about =
    let reducing = λ (w : Write). is_reduces w.kind in
    let names : other_name ≡ name =
    sym (line_named tasks reducing other_name task line wanted).0 ∙ eqb-true (of_line tasks task line (λ w. w.name)) name about in
    subst (λ (k : ℕ). is_line_of tasks reducing k task line ≡ true) names wanted
told_number tasks store.Old other_at name other_name (Old n l m patch) wanted about = absurd cc
told_number tasks store.New other_at name other_name (Old n l m patch) wanted about = absurd cc
told_number tasks at other_at name other_name (OldNumber n) wanted about = absurd cc
told_number tasks store.Old other_at name other_name (New writer line l m patch) wanted about = absurd cc
told_number tasks store.New other_at name other_name (New writer line l m patch) wanted about = absurd cc
told_number tasks store.Old other_at name other_name (Part writer line l m patch) wanted about = absurd cc
told_number tasks store.New other_at name other_name (Part writer line l m patch) wanted about = absurd cc
told_number tasks at other_at name other_name (Number writer line) wanted about = absurd cc

-- what has a number is of no variable, and what has a variable of no reduction
apart : (tasks : List Task) (place : ℕ) (at other_at : Store) (name other_name level : ℕ) (s : Slot) →
    has_number tasks other_at other_name s ≡ true → is_about (shown_slot tasks s) at name level ≡ true → ⊥
apart tasks place at store.Old name other_name level (Old n l m patch) wanted about = cc
apart tasks place at store.New name other_name level (Old n l m patch) wanted about = cc
apart tasks place at store.Old name other_name level (New writer line l m patch) wanted about = cc
apart tasks place at store.New name other_name level (New writer line l m patch) wanted about = cc
apart tasks place at store.Old name other_name level (Part writer line l m patch) wanted about = cc
apart tasks place at store.New name other_name level (Part writer line l m patch) wanted about = cc
apart tasks place store.Old other_at name other_name level (OldNumber n) wanted about = cc
apart tasks place store.New other_at name other_name level (OldNumber n) wanted about = cc
apart tasks place store.Old other_at name other_name level (Number writer line) wanted about = cc
apart tasks place store.New other_at name other_name level (Number writer line) wanted about = cc

set_apart : (tasks : List Task) (place : ℕ) (at other_at : Store) (name other_name material level : ℕ) (s : Slot) →
    has_variable tasks place other_at other_name material level s ≡ true → is_number_about (shown_slot tasks s) at name ≡ true → ⊥
set_apart tasks place store.Old other_at name other_name material level (Old n l m patch) wanted about = cc
set_apart tasks place store.New other_at name other_name material level (Old n l m patch) wanted about = cc
set_apart tasks place store.Old other_at name other_name material level (New writer line l m patch) wanted about = cc
set_apart tasks place store.New other_at name other_name material level (New writer line l m patch) wanted about = cc
set_apart tasks place store.Old other_at name other_name material level (Part writer line l m patch) wanted about = cc
set_apart tasks place store.New other_at name other_name material level (Part writer line l m patch) wanted about = cc
set_apart tasks place at store.Old name other_name material level (OldNumber n) wanted about = cc
set_apart tasks place at store.New name other_name material level (OldNumber n) wanted about = cc
set_apart tasks place at store.Old name other_name material level (Number writer line) wanted about = cc
set_apart tasks place at store.New name other_name material level (Number writer line) wanted about = cc

module _ (p : Problem) (tasks : List Task) (task : ℕ) (t : Task) (level material patch : ℕ) (s : Slot) (stands : slice_get tasks task ≡ Some t)
    (is_read : reads p tasks (OnPatch task level material patch) s ≡ true) where
  some_wants : (q : Require) × (wants p tasks task t level material patch s q ≡ true)
  some_wants =
      let listed : list_any (wants p tasks task t level material patch s) t.requirements ≡ true =
      sym (ap (λ (o : Option Task). option_map_or (λ (u : Task). list_any (wants p tasks task u level material patch s) u.requirements) o false) stands) ∙ is_read in
      let found = Any-from_list_any (wants p tasks task t level material patch s) t.requirements listed in
      (found.1, found.4)

  by_want : (number : Bool) (a b c : Bool) → cond number a (b && c) ≡ true → (a ≡ true) ⊎ (b ≡ true)
  by_want true a b c is = inl is
  by_want false a b c is = inr (and_parts b c is).0

  wanted_some : (q : Require) × ((has_number tasks q.store (wanted_name q.what) s ≡ true)
      ⊎ (has_variable tasks task q.store (wanted_name q.what) material (wanted_level q.what level) s ≡ true))
  wanted_some =
      let some = some_wants in
      let q = some.0 in (
        q,
        by_want (is_of_number q.what) (has_number tasks q.store (wanted_name q.what) s)
            (has_variable tasks task q.store (wanted_name q.what) material (wanted_level q.what level) s) (is_in_window p t q level patch (patch_of s)) some.1,
      )

  -- Of the slots that a task reads, those of a name and a level have the variable for the task's material as it stands for the task.
  pub read_variable : (at : Store) (name on : ℕ) → is_about (shown_slot tasks s) at name on ≡ true → has_variable tasks task at name material on s ≡ true
  read_variable at name on about =
      let some = wanted_some in
      let q = some.0 in
      elim some.1 [
        | inl number ↦ absurd (apart tasks task at q.store name (wanted_name q.what) on s number about)
        | inr variable ↦ told_variable tasks task at q.store name (wanted_name q.what) material on (wanted_level q.what level) s variable about
      ]

  pub read_number : (at : Store) (name : ℕ) → is_number_about (shown_slot tasks s) at name ≡ true → has_number tasks at name s ≡ true
  read_number at name about =
      let some = wanted_some in
      let q = some.0 in
      elim some.1 [
        | inl number ↦ told_number tasks at q.store name (wanted_name q.what) s number about
        | inr variable ↦ absurd (set_apart tasks task at q.store name (wanted_name q.what) material (wanted_level q.what level) s variable about)
      ]
