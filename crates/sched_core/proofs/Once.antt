-- A task lowers each count once.
use Rattle.std.proofs.Common.{◌≡◌, ◌∙◌, ◌≤◌, ◌<◌, ◌+◌, ℕ, zero, suc, Bool, true, false, cond, List, [], ◌∷◌, ◌++◌, map, take, Some, ◌⊎◌, inl, inr, length, get_or, ap, sym, refl, subst, arith}
use Rattle.std.specs.Prelude.{◌||◌, ◌==◌, filter, slice_get}
use Rattle.std.specs.List.{count_by, flat_map, list_any}
use Rattle.std.proofs.lemmas.Bool.{cases_Bool, cases_lt, cases_order, eqb-true, or_parts}
use Rattle.std.specs.List.Sorted.{IsStrictlyIncreasing}
use Rattle.std.proofs.lemmas.List.Elements.{All-get_or}
use Rattle.std.proofs.lemmas.Option.{none-some, slice_get_within, get_or_from_slice_get}
use Rattle.std.proofs.lemmas.List.Sums.{sum_by-cons, sum_by-append, get_or-le-sum_by}
use Rattle.graph_types.specs.declared.graph.Graph.{Graph}
use Rattle.graph_types.specs.Counting.{rises}
use Rattle.graph_types.specs.Facts.{reader_follows}
use Rattle.graph_types.specs.Graph.{reads_of, writes_of, successors_of, tasks_of, follows, has, IsSlotList, IsValid}
use Rattle.sched_core.specs.declared.act.Act.{Act}
use Rattle.sched_core.specs.declared.act.Act.TheVariants.{Opens, Closes, Publishes, LowersUse, LowersSuccessor, Finishes}
use Rattle.sched_core.specs.Core.{reading, lowering, script, lowers_use, lowers_successor}
use Rattle.sched_core.proofs.Lists.{number, number_true, number_false}
use Rattle.sched_core.proofs.Scripts.{none_reading}
use Rattle.sched_core.proofs.SoundSums.{sum_zero, counts_few}

count_cons : {A : Type 0} (test : A → Bool) (x : A) (xs : List A) → count_by test (x ∷ xs) ≡ number (test x) + count_by test xs
count_cons test x xs = sum_by-cons (λ y. cond (test y) 1 0) x xs

count_append : {A : Type 0} (test : A → Bool) (xs ys : List A) → count_by test (xs ++ ys) ≡ count_by test xs + count_by test ys
count_append test xs ys = sum_by-append (λ y. cond (test y) 1 0) xs ys

none_counted : {A : Type 0} (test : A → Bool) (xs : List A) → list_any test xs ≡ false → count_by test xs ≡ 0
none_counted test [] none = refl
none_counted test (x ∷ xs) none =
    let parts = or_parts (test x) (list_any test xs) none in
    omega (arith, count_cons test x xs, number_false (test x) parts.0, none_counted test xs parts.1)

counts_some : (test : Act → Bool) (acts : List Act) (at : ℕ) (act : Act) → slice_get acts at ≡ Some act → test act ≡ true → 1 ≤ count_by test acts
counts_some test acts at act h met =
    omega (arith, get_or-le-sum_by (λ a. cond (test a) 1 0) acts at act (slice_get_within acts at act h), number_true (test (get_or acts at act)) (ap test (get_or_from_slice_get acts at act act h) ∙ met))

-- where one act passes a test, none before it does
pub none_before : (test : Act → Bool) (acts : List Act) (at : ℕ) (act : Act) → slice_get acts at ≡ Some act → test act ≡ true → count_by test acts ≤ 1 → list_any test (take at acts) ≡ false
none_before test [] at act h met le = absurd (none-some act h)
none_before test (x ∷ acts) zero act h met le = refl
none_before test (x ∷ acts) (suc at) act h met le = by_test (cases_Bool (test x)) (none_before test acts at act h met) where
  by_test : (test x ≡ true) ⊎ (test x ≡ false) → (count_by test acts ≤ 1 → list_any test (take at acts) ≡ false) → (test x || list_any test (take at acts)) ≡ false
  by_test (inl too) rest = absurd (omega (arith, count_cons test x acts, number_true (test x) too, counts_some test acts at act h met))
  by_test (inr unmet) rest = ap (λ (b : Bool). b || list_any test (take at acts)) unmet ∙ rest (omega (arith, count_cons test x acts))

-- How often a test passes in a script, where it passes only acts that lower.
count_made : (test : Act → Bool) (make : ℕ → Act) (numbers : List ℕ) → count_by test (map make numbers) ≡ count_by (λ n. test (make n)) numbers
count_made test make [] = refl
count_made test make (n ∷ numbers) = omega (arith, count_cons test (make n) (map make numbers), count_made test make numbers, count_cons (λ m. test (make m)) n numbers)

count_script : (g : Graph) (task : ℕ) (test : Act → Bool) → ((slot : ℕ) → test (Opens slot) ≡ false) → ((slot : ℕ) → test (Closes slot) ≡ false) → test Publishes ≡ false → test Finishes ≡ false →
    count_by test (script g task) ≡ count_by (λ slot. test (LowersUse slot)) (reads_of g task ++ writes_of g task) + count_by (λ t. test (LowersSuccessor t)) (successors_of g task)
unfolding script
count_script g task test no_open no_close no_publish no_end =
    omega (
      arith,
      count_append test (flat_map reading (reads_of g task)) (Publishes ∷ (lowering g task ++ (Finishes ∷ []))),
      none_counted test (flat_map reading (reads_of g task)) (none_reading test no_open no_close (reads_of g task)),
      count_cons test Publishes (lowering g task ++ (Finishes ∷ [])),
      number_false (test Publishes) no_publish,
      count_append test (lowering g task) (Finishes ∷ []),
      count_cons test Finishes [],
      number_false (test Finishes) no_end,
      count_append test (map LowersUse (reads_of g task ++ writes_of g task)) (map LowersSuccessor (successors_of g task)),
      count_made test LowersUse (reads_of g task ++ writes_of g task),
      count_made test LowersSuccessor (successors_of g task),
    )

filtered_less : (p q : ℕ → Bool) (xs : List ℕ) → count_by q (filter p xs) ≤ count_by q xs
filtered_less p q [] = omega arith
filtered_less p q (x ∷ xs) = by_test (cases_Bool (p x)) (filtered_less p q xs) where
  by_test : (p x ≡ true) ⊎ (p x ≡ false) → count_by q (filter p xs) ≤ count_by q xs → count_by q (filter p (x ∷ xs)) ≤ count_by q (x ∷ xs)
  by_test (inl passes) ih = rw passes (omega (arith, count_cons q x (filter p xs), count_cons q x xs, ih))
  by_test (inr fails) ih = rw fails (omega (arith, count_cons q x xs, ih))

pub successor_once : (g : Graph) → IsValid g → (task e : ℕ) → task < g.tasks → count_by (lowers_successor e) (script g task) ≤ 1
successor_once g valid task e lt =
    let among_all = counts_few (λ t. t == e) e g.tasks (λ t met. eqb-true t e met) in
    let few : count_by (λ t. t == e) (successors_of g task) ≤ 1 =
    subst (λ (xs : List ℕ). count_by (λ t. t == e) xs ≤ 1) (sym (valid.order.successors task lt)) (omega (arith, filtered_less (follows g task) (λ t. t == e) (tasks_of g), among_all.0)) in
    omega (arith, count_script g task (lowers_successor e) (λ slot. refl) (λ slot. refl) refl refl, sum_zero (reads_of g task ++ writes_of g task), few)

-- a test that holds at one place at most holds once at most
at_most_one : (test : ℕ → Bool) (xs : List ℕ) → ((i j : ℕ) → i < length xs → j < length xs → test (get_or xs i 0) ≡ true → test (get_or xs j 0) ≡ true → i ≡ j) → count_by test xs ≤ 1
at_most_one test [] h = omega arith
at_most_one test (x ∷ xs) h = by_test (cases_Bool (test x)) (at_most_one test xs (λ i j hi hj ti tj. let e : suc i ≡ suc j = h (suc i) (suc j) (omega arith) (omega arith) ti tj in omega arith)) where
  none : (ys : List ℕ) → ((j : ℕ) → j < length ys → test (get_or ys j 0) ≡ true → ⊥) → count_by test ys ≡ 0
  none [] never = refl
  none (y ∷ ys) never = omega (arith, count_cons test y ys, none ys (λ j lt met. never (suc j) (omega arith) met), number_false (test y) (first (cases_Bool (test y)))) where
    first : (test y ≡ true) ⊎ (test y ≡ false) → test y ≡ false
    first (inl met) = absurd (never 0 (omega arith) met)
    first (inr unmet) = unmet

  by_test : (test x ≡ true) ⊎ (test x ≡ false) → count_by test xs ≤ 1 → count_by test (x ∷ xs) ≤ 1
  by_test (inl met) ih =
      omega (arith, count_cons test x xs, number_true (test x) met, none xs (λ j lt there. let e : 0 ≡ suc j = h 0 (suc j) (omega arith) (omega arith) met there in omega arith))
  by_test (inr unmet) ih = omega (arith, count_cons test x xs, number_false (test x) unmet)

-- a strictly increasing list has a number once at most
rising_once : (xs : List ℕ) → IsStrictlyIncreasing xs → (slot : ℕ) → count_by (λ s. s == slot) xs ≤ 1
rising_once xs up slot = at_most_one (λ s. s == slot) xs (λ i j hi hj ti tj. by_order i j hi hj (eqb-true (get_or xs i 0) slot ti) (eqb-true (get_or xs j 0) slot tj) (cases_order i j)) where
  by_order : (i j : ℕ) → i < length xs → j < length xs → get_or xs i 0 ≡ slot → get_or xs j 0 ≡ slot → (i ≡ j) ⊎ ((i < j) ⊎ (j < i)) → i ≡ j
  by_order i j hi hj ei ej (inl e) = e
  by_order i j hi hj ei ej (inr (inl less)) = absurd (omega (arith, rises xs up i j less hj))
  by_order i j hi hj ei ej (inr (inr more)) = absurd (omega (arith, rises xs up j i more hi))

some_of : (slot : ℕ) (xs : List ℕ) → 1 ≤ count_by (λ s. s == slot) xs → has xs slot ≡ true
some_of slot xs some = by_test (cases_Bool (has xs slot)) where
  by_test : (has xs slot ≡ true) ⊎ (has xs slot ≡ false) → has xs slot ≡ true
  by_test (inl there) = there
  by_test (inr none) = absurd (omega (arith, none_counted (λ s. s == slot) xs none, some))

-- a task reads no slot that it writes
reads_or_writes : (g : Graph) → IsValid g → (task slot : ℕ) → task < g.tasks → count_by (λ s. s == slot) (reads_of g task) + count_by (λ s. s == slot) (writes_of g task) ≤ 1
reads_or_writes g valid task slot lt = by_count (cases_lt 1 (count_by (λ s. s == slot) (reads_of g task) + count_by (λ s. s == slot) (writes_of g task))) where
  one_read : count_by (λ s. s == slot) (reads_of g task) ≤ 1
  one_read = rising_once (reads_of g task) (All-get_or (IsSlotList g.slots) g.reads task [] (omega (arith, valid.lengths.reads)) valid.reads).ascending slot

  one_write : count_by (λ s. s == slot) (writes_of g task) ≤ 1
  one_write = rising_once (writes_of g task) (All-get_or (IsSlotList g.slots) g.writes task [] (omega (arith, valid.lengths.writes)) valid.writes).ascending slot

  by_count : (1 < count_by (λ s. s == slot) (reads_of g task) + count_by (λ s. s == slot) (writes_of g task)) ⊎ (count_by (λ s. s == slot) (reads_of g task) + count_by (λ s. s == slot) (writes_of g task) ≤ 1) →
      count_by (λ s. s == slot) (reads_of g task) + count_by (λ s. s == slot) (writes_of g task) ≤ 1
  by_count (inr le) = le
  by_count (inl more) =
      let read = some_of slot (reads_of g task) (omega (arith, one_write, more)) in
      let written = some_of slot (writes_of g task) (omega (arith, one_read, more)) in
      let forward = valid.order.forward task task lt lt (reader_follows g task task slot written read) in
      absurd (omega arith)

pub use_once : (g : Graph) → IsValid g → (task slot : ℕ) → task < g.tasks → count_by (lowers_use slot) (script g task) ≤ 1
use_once g valid task slot lt =
    omega (
      arith,
      count_script g task (lowers_use slot) (λ s. refl) (λ s. refl) refl refl,
      sum_zero (successors_of g task),
      count_append (λ s. s == slot) (reads_of g task) (writes_of g task),
      reads_or_writes g valid task slot lt,
    )
