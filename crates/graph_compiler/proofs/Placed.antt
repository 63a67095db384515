-- The first and the last place of a list at which a test passes.
use Rattle.std.proofs.Common.{◌≡◌, ◌∙◌, ◌<◌, ◌≤◌, ◌+◌, ◌-◌, ◌⊎◌, inl, inr, ℕ, suc, List, [], ◌∷◌, Bool, true, false, cond, Option, Some, None, length, take, drop, ap, sym, refl, arith}
use Rattle.std.specs.Prelude.{not, nat_lt, slice_get, ◌&&◌, ◌||◌}
use Rattle.std.specs.List.{list_any, position, position_or_len}
use Rattle.std.specs.Option.{option_map_or}
use Rattle.std.proofs.lemmas.Bool.{and_from, and_parts, cases_eq, cases_order, false_from_ne_true, lt-ltb, ltb-false, ltb-true}
use Rattle.std.proofs.lemmas.Option.{cond_some}
use Rattle.uts_geom.specs.Lists.{any_at, at_place, of_option, from_take, get-take, get-drop}
use Rattle.problem_types.specs.declared.problem.Task.{Task}
use Rattle.task_check.specs.Plan.{is_last_writer, writes_variable}
use Rattle.graph_compiler.specs.Sources.{IsLast}

-- two tests that pass together
pub same_tests : (a b : Bool) → (a ≡ true → b ≡ true) → (b ≡ true → a ≡ true) → a ≡ b
same_tests true b forth back = sym (forth refl)
same_tests false true forth back = back refl
same_tests false false forth back = refl

-- ---- the first place

module _ {A : Type 0} (p : A → Bool) where
  first_at : (xs : List A) → position_or_len p xs < length xs → (x : A) × (slice_get xs (position_or_len p xs) ≡ Some x) × (p x ≡ true)
  first_at [] below = absurd (omega (arith, below))
  first_at (x ∷ xs) below = by_test (p x) refl (position_or_len p xs) below (first_at xs)
    where
      by_test : (b : Bool) → p x ≡ b → (n : ℕ) → cond (not b) (1 + n) 0 < suc (length xs) → (n < length xs → (y : A) × (slice_get xs n ≡ Some y) × (p y ≡ true)) →
          (y : A) × (slice_get (x ∷ xs) (cond (not b) (1 + n) 0) ≡ Some y) × (p y ≡ true)
      by_test true is n less rest = (x, refl, is)
      by_test false is n less rest =
          let found = rest (omega (arith, less)) in
          (found.0, ap (slice_get (x ∷ xs)) (let e : 1 + n ≡ suc n = omega arith in e) ∙ found.1, found.2)

  none_first : (xs : List A) → length xs ≤ position_or_len p xs → list_any p xs ≡ false
  none_first [] past = refl
  none_first (x ∷ xs) past = by_test (p x) (position_or_len p xs) past (none_first xs)
    where
      by_test : (b : Bool) (n : ℕ) → suc (length xs) ≤ cond (not b) (1 + n) 0 → (length xs ≤ n → list_any p xs ≡ false) → (b || list_any p xs) ≡ false
      by_test true n beyond rest = absurd (omega (arith, beyond))
      by_test false n beyond rest = rest (omega (arith, beyond))

  -- what stands at the position, and that nothing passes where there is none
  pub position_at : (xs : List A) (k : ℕ) → position p xs ≡ Some k → (x : A) × (slice_get xs k ≡ Some x) × (p x ≡ true)
  position_at xs k is =
      let found = cond_some (nat_lt (position_or_len p xs) (length xs)) (position_or_len p xs) k is in
      let first = first_at xs (ltb-true (position_or_len p xs) (length xs) found.0) in
      (first.0, ap (slice_get xs) (sym found.1) ∙ first.1, first.2)

  pub position_none : (xs : List A) → position p xs ≡ None → list_any p xs ≡ false
  position_none xs is = by_test (nat_lt (position_or_len p xs) (length xs)) refl is
    where
      by_test : (b : Bool) → nat_lt (position_or_len p xs) (length xs) ≡ b → cond b (Some (position_or_len p xs)) None ≡ None → list_any p xs ≡ false
      by_test true less none = absurd cc
      by_test false past none = none_first xs (ltb-false (position_or_len p xs) (length xs) past)

  -- where nothing passes, no item does
  pub none_at : (xs : List A) (k : ℕ) (x : A) → list_any p xs ≡ false → slice_get xs k ≡ Some x → p x ≡ false
  none_at xs k x none at = false_from_ne_true (p x) (λ passes. let some = any_at p xs k x at passes in absurd cc)

-- ---- the last place

module _ {A : Type 0} (p : A → Bool) (xs : List A) where
  pub last_of_none : IsLast p (take 0 xs) None
  last_of_none place item at = absurd cc

  module _ (i : ℕ) (x : A) (at_i : slice_get xs i ≡ Some x) where
    pub last_here : p x ≡ true → IsLast p (take (i + 1) xs) (Some i)
    last_here passes = (
      x,
      get-take xs (i + 1) i (omega arith) ∙ at_i,
      passes,
      λ place other behind at.
          let there = from_take xs (i + 1) place other at in absurd (omega (arith, behind, there.0)),
    )

    pub last_kept : (last : Option ℕ) → p x ≡ false → IsLast p (take i xs) last → IsLast p (take (i + 1) xs) last
    last_kept None fails before = λ place item at.
        let there = from_take xs (i + 1) place item at in by_place place item there.0 there.1 (cases_eq place i)
      where
        by_place : (place : ℕ) (item : A) → place < i + 1 → slice_get xs place ≡ Some item → (place ≡ i) ⊎ (place ≡ i → ⊥) → p item ≡ false
        by_place place item below there (inl same) = let one : x ≡ item = (let also : slice_get xs i ≡ Some item = ap (slice_get xs) (sym same) ∙ there in cc) in ap p (sym one) ∙ fails
        by_place place item below there (inr other) = before place item (get-take xs i place (omega (arith, below, other)) ∙ there)
    last_kept (Some last) fails before =
        let there = from_take xs i last before.0 before.1 in (
          before.0,
          get-take xs (i + 1) last (omega (arith, there.0)) ∙ there.1,
          before.2,
          λ place other behind at.
              let standing = from_take xs (i + 1) place other at in by_place place other behind standing.0 standing.1 (cases_eq place i),
        )
      where
        by_place : (place : ℕ) (item : A) → last < place → place < i + 1 → slice_get xs place ≡ Some item → (place ≡ i) ⊎ (place ≡ i → ⊥) → p item ≡ false
        by_place place item behind below there (inl same) = let one : x ≡ item = (let also : slice_get xs i ≡ Some item = ap (slice_get xs) (sym same) ∙ there in cc) in ap p (sym one) ∙ fails
        by_place place item behind below there (inr other) = before.3 place item behind (get-take xs i place (omega (arith, below, other)) ∙ there)

-- the last writer of a variable before a place, by the test that tells it
module _ (tasks : List Task) (place name material level : ℕ) where
  abbrev writes_it : Task → Bool
  writes_it t = writes_variable name material level t

  abbrev writes_last : ℕ → Bool
  writes_last writer = is_last_writer tasks place name material level writer

  pub last_is_writer : (writer : ℕ) → IsLast writes_it (take place tasks) (Some writer) → writes_last writer ≡ true
  last_is_writer writer last =
      let there = from_take tasks place writer last.0 last.1 in
      and_from (nat_lt writer place) (option_map_or writes_it (slice_get tasks writer) false && not (list_any writes_it (drop (writer + 1) (take place tasks)))) (lt-ltb writer place there.0)
      (and_from (option_map_or writes_it (slice_get tasks writer) false) (not (list_any writes_it (drop (writer + 1) (take place tasks))))
      (ap (λ (o : Option Task). option_map_or writes_it o false) there.1 ∙ last.2)
      (ap not (false_from_ne_true (list_any writes_it (drop (writer + 1) (take place tasks))) (λ some.
      let later = at_place writes_it (drop (writer + 1) (take place tasks)) some in
      let fails = last.3 (writer + 1 + later.0) later.1 (omega arith) (sym (get-drop (take place tasks) (writer + 1) later.0) ∙ later.2) in
      let passes = later.3 in absurd cc))))

  -- a task that is the last writer, among the earlier tasks
  writer_there : (writer : ℕ) → writes_last writer ≡ true →
      (writer < place) × (t : Task) × (slice_get (take place tasks) writer ≡ Some t) × (writes_it t ≡ true) × (list_any writes_it (drop (writer + 1) (take place tasks)) ≡ false)
  writer_there writer is =
      let first = and_parts (nat_lt writer place) (option_map_or writes_it (slice_get tasks writer) false && not (list_any writes_it (drop (writer + 1) (take place tasks)))) is in
      let second = and_parts (option_map_or writes_it (slice_get tasks writer) false) (not (list_any writes_it (drop (writer + 1) (take place tasks)))) first.1 in
      let before = ltb-true writer place first.0 in
      let t = of_option writes_it (slice_get tasks writer) second.0 in
      (before, t.0, get-take tasks place writer before ∙ t.1, t.2, by_test (list_any writes_it (drop (writer + 1) (take place tasks))) second.1)
    where
      by_test : (b : Bool) → not b ≡ true → b ≡ false
      by_test true is = absurd cc
      by_test false is = refl

  pub no_writer : IsLast writes_it (take place tasks) None → (writer : ℕ) → writes_last writer ≡ false
  no_writer none writer = false_from_ne_true (writes_last writer) (λ is.
      let t = writer_there writer is in
      let fails = none writer t.1 t.2 in
      let passes = t.3 in absurd cc)

  pub one_writer : (writer other : ℕ) → IsLast writes_it (take place tasks) (Some writer) → writes_last other ≡ true → other ≡ writer
  one_writer writer other last is = by_order (writer_there other is) (cases_order other writer)
    where
      by_order : (other < place) × (t : Task) × (slice_get (take place tasks) other ≡ Some t) × (writes_it t ≡ true) × (list_any writes_it (drop (other + 1) (take place tasks)) ≡ false)
          → (other ≡ writer) ⊎ ((other < writer) ⊎ (writer < other)) → other ≡ writer
      by_order t (inl same) = same
      by_order t (inr (inl before)) =
          let gap : other + 1 + (writer - (other + 1)) ≡ writer = omega (arith, before) in
          let fails = none_at writes_it (drop (other + 1) (take place tasks)) (writer - (other + 1)) last.0 t.4
          (get-drop (take place tasks) (other + 1) (writer - (other + 1)) ∙ ap (slice_get (take place tasks)) gap ∙ last.1) in
          let passes = last.2 in absurd cc
      by_order t (inr (inr after)) = let fails = last.3 other t.1 after t.2 in let passes = t.3 in absurd cc
