-- The core at the start of a step is sound.
use Rattle.std.proofs.Common.{◌≡◌, ◌∙◌, ◌≤◌, ◌<◌, ◌+◌, ◌-◌, ◌*◌, ℕ, zero, suc, Bool, true, false, cond, not, List, [], ◌∷◌, map, ◌⊎◌, inl, inr, length, get_or, ap, sym, refl, subst, arith, length-append, zero-add}
use Rattle.std.specs.Prelude.{◌==◌, ◌&&◌, ◌||◌, All, IsTrue, filter, replicate, nat_lt, slice_index, slice_index_or}
use Rattle.std.specs.List.{count_by, sum_by, list_any, range_with_len}
use Rattle.std.proofs.Math.Bool.{and-true}
use Rattle.std.proofs.lemmas.Bool.{false≢true, cases_Bool, cases_eq, cases_lt, eq-eqb, eqb-true, ne_eqb, and_from, and_left, and_right}
use Rattle.std.proofs.lemmas.List.{length-map, length-replicate, get_or-replicate, get_or_past, get_or-append-add, get_or_append_left}
use Rattle.std.proofs.lemmas.List.Elements.{All-get_or, All-replicate, All-cons, All-filter, All-map, All-from_get_or, filter_passes}
use Rattle.std.proofs.lemmas.List.FromFn.{length-range_with_len}
use Rattle.std.proofs.lemmas.List.Folds.{sum_by-replicate}
use Rattle.std.proofs.lemmas.List.Sums.{sum_by-cons, sum_by-append, count_by-le-length, length-filter}
use Rattle.graph_types.specs.declared.graph.Graph.{Graph}
use Rattle.graph_types.specs.Counting.{all_below, count_alike, count_one, count_suc}
use Rattle.graph_types.specs.Facts.{reader_follows}
use Rattle.graph_types.specs.Graph.{IsValid, tasks_of, reads, writes, follows, readers, writers, is_kept}
use Rattle.sched_core.specs.declared.act.Act.{Act}
use Rattle.sched_core.specs.declared.view.View.{View}
use Rattle.sched_core.specs.declared.state.Core.{Core}
use Rattle.sched_core.specs.declared.view.View.TheVariants.{Unmade, Idle}
use Rattle.sched_core.specs.Core.{number_at, number_behind, is_finished, is_behind, holds, runs, is_at, has_behind, is_put_at, is_in_hand, is_anything, is_scrub, does_something, closes, lowers_use, lowers_successor, gone_of, halted_of, seats_of}
use Rattle.sched_core.specs.Start.{start, first_tasks, first_words}
use Rattle.sched_core.specs.Sound.{is_in_shape, StandsBelow, SlotStands, Unwritten, Free, number_in, is_unwritten, IsSound}
use Rattle.sched_core.proofs.Lists.{number, number_true, number_false, any_below, none_below, counts_but_one}
use Rattle.sched_core.proofs.SoundSums.{sum_zero}

-- a sum over them
sum_at : (f : View → ℕ) (seats : ℕ) → sum_by f (Idle ∷ replicate (seats - 1) Unmade) ≡ f Idle + (seats - 1) * f Unmade
sum_at f seats = sum_by-cons f Idle (replicate (seats - 1) Unmade) ∙ ap (λ (n : ℕ). f Idle + n) (sum_by-replicate f (seats - 1) Unmade)

none_at : (f : View → ℕ) (seats : ℕ) → f Idle ≡ 0 → f Unmade ≡ 0 → sum_by f (Idle ∷ replicate (seats - 1) Unmade) ≡ 0
none_at f seats idle unmade = sum_at f seats ∙ ap (λ (n : ℕ). n + (seats - 1) * f Unmade) idle ∙ ap (λ (n : ℕ). 0 + (seats - 1) * n) unmade ∙ omega arith

-- words that are all 0
zeros : (n i : ℕ) → slice_index (replicate n 0) i ≡ 0
zeros n i = by_order (cases_lt i n) where
  by_order : (i < n) ⊎ (n ≤ i) → slice_index (replicate n 0) i ≡ 0
  by_order (inl lt) = get_or-replicate n i 0 0 lt
  by_order (inr le) = get_or_past (replicate n 0) i 0 (omega (arith, length-replicate n zero))

-- tests that never hold of one number together count apart
count_either : (p q : ℕ → Bool) (n : ℕ) → ((k : ℕ) → k < n → p k ≡ true → q k ≡ false) → count_by (λ k. p k || q k) (range_with_len 0 n) ≡ count_by p (range_with_len 0 n) + count_by q (range_with_len 0 n)
count_either p q zero apart = refl
count_either p q (suc n) apart =
    omega (arith, count_suc (λ k. p k || q k) n, count_suc p n, count_suc q n, count_either p q n (λ k lt. apart k (omega arith)), one (p n) (q n) (apart n (omega arith)))
  where
    one : (a b : Bool) → (a ≡ true → b ≡ false) → cond (a || b) 1 0 ≡ number a + number b
    one true true h = absurd (false≢true (sym (h refl)))
    one true false h = refl
    one false true h = refl
    one false false h = refl

-- the words of the first tasks
word_of : (p : ℕ → Bool) (xs : List ℕ) (e : ℕ) → count_by (λ w. w == e + 1) (map (λ t. t + 1) (filter p xs)) ≡ count_by (λ t. p t && (t == e)) xs
word_of p [] e = refl
word_of p (x ∷ xs) e = by_test (cases_Bool (p x)) (word_of p xs e) where
  same : (x + 1 == e + 1) ≡ (x == e)
  same = by_case (cases_eq x e) where
    by_case : (x ≡ e) ⊎ (x ≡ e → ⊥) → (x + 1 == e + 1) ≡ (x == e)
    by_case (inl is) = eq-eqb _ _ (omega arith) ∙ sym (eq-eqb _ _ is)
    by_case (inr other) = ne_eqb _ _ (λ z. other (omega arith)) ∙ sym (ne_eqb _ _ other)

  by_test : (p x ≡ true) ⊎ (p x ≡ false) → count_by (λ w. w == e + 1) (map (λ t. t + 1) (filter p xs)) ≡ count_by (λ t. p t && (t == e)) xs →
      count_by (λ w. w == e + 1) (map (λ t. t + 1) (filter p (x ∷ xs))) ≡ count_by (λ t. p t && (t == e)) (x ∷ xs)
  by_test (inl passes) ih =
      ap (λ (b : Bool). count_by (λ w. w == e + 1) (map (λ t. t + 1) (cond b (x ∷ filter p xs) (filter p xs)))) passes
      ∙ sum_by-cons (λ w. cond (w == e + 1) 1 0) (x + 1) (map (λ t. t + 1) (filter p xs))
      ∙ ap (λ (n : ℕ). number (x + 1 == e + 1) + n) ih
      ∙ ap (λ (b : Bool). number b + count_by (λ t. p t && (t == e)) xs) (same ∙ sym (ap (λ (b : Bool). b && (x == e)) passes))
      ∙ sym (sum_by-cons (λ t. cond (p t && (t == e)) 1 0) x xs)
  by_test (inr fails) ih =
      ap (λ (b : Bool). count_by (λ w. w == e + 1) (map (λ t. t + 1) (cond b (x ∷ filter p xs) (filter p xs)))) fails
      ∙ ih
      ∙ sym (zero-add (count_by (λ t. p t && (t == e)) xs))
      ∙ ap (λ (b : Bool). number b + count_by (λ t. p t && (t == e)) xs) (sym (ap (λ (b : Bool). b && (x == e)) fails))
      ∙ sym (sum_by-cons (λ t. cond (p t && (t == e)) 1 0) x xs)

zero_words : (n e : ℕ) → count_by (λ w. w == e + 1) (replicate n 0) ≡ 0
zero_words n e = sum_by-replicate (λ w. cond (w == e + 1) 1 0) n 0 ∙ ap (λ (k : ℕ). n * k) (number_false (0 == e + 1) (ne_eqb _ _ (λ z. omega arith))) ∙ omega arith

-- each first word is the number of a task that waits for none, and 1
are_first : (p : ℕ → Bool) (n : ℕ) → All (λ w. (1 ≤ w) × (w ≤ n) × (p (w - 1) ≡ true)) (map (λ t. t + 1) (filter p (range_with_len 0 n)))
are_first p n = All-map (λ w. (1 ≤ w) × (w ≤ n) × (p (w - 1) ≡ true)) (λ t. t + 1) (filter p (range_with_len 0 n)) (All-from_get_or (λ t. (1 ≤ t + 1) × (t + 1 ≤ n) × (p ((t + 1) - 1) ≡ true)) (filter p (range_with_len 0 n)) 0 each_of) where
  each_of : (i : ℕ) → i < length (filter p (range_with_len 0 n)) → (1 ≤ get_or (filter p (range_with_len 0 n)) i 0 + 1) × (get_or (filter p (range_with_len 0 n)) i 0 + 1 ≤ n) × (p ((get_or (filter p (range_with_len 0 n)) i 0 + 1) - 1) ≡ true)
  each_of i lt =
      let t = get_or (filter p (range_with_len 0 n)) i 0 in
      let below : t < n = All-get_or (λ k. k < n) (filter p (range_with_len 0 n)) i 0 lt (All-filter p (λ k. k < n) (range_with_len 0 n) (all_below n)) in
      let passes : p t ≡ true = All-get_or (λ k. p k ≡ true) (filter p (range_with_len 0 n)) i 0 lt (filter_passes p (range_with_len 0 n)) in
      (omega arith, omega arith, ap p (let e : (t + 1) - 1 ≡ t = omega arith in e) ∙ passes)

module _ (g : Graph) (valid : IsValid g) (seats : ℕ) (some : 1 ≤ seats) (few : seats ≤ 64) where
  few_words : length (first_words g) ≤ g.tasks
  few_words = omega (arith, length-map (first_tasks g) (λ t. t + 1), length-filter (λ t. slice_index g.predecessors t == 0) (tasks_of g), count_by-le-length (λ t. slice_index g.predecessors t == 0) (tasks_of g), length-range_with_len 0 g.tasks)

  ring_below : (place : ℕ) → place < length (first_words g) → slice_index (start g seats).ring place ≡ slice_index (first_words g) place
  ring_below place lt = get_or_append_left (first_words g) (replicate (g.tasks - length (first_words g)) 0) 0 place lt

  ring_past : (place : ℕ) → length (first_words g) ≤ place → slice_index (start g seats).ring place ≡ 0
  ring_past place le =
      ap (slice_index (start g seats).ring) (let e : place ≡ length (first_words g) + (place - length (first_words g)) = omega arith in e)
      ∙ get_or-append-add (first_words g) (replicate (g.tasks - length (first_words g)) 0) (place - length (first_words g)) 0
      ∙ zeros (g.tasks - length (first_words g)) (place - length (first_words g))

  word_at : (place : ℕ) → place < length (first_words g) → (1 ≤ slice_index (first_words g) place) × (slice_index (first_words g) place ≤ g.tasks) × ((slice_index g.predecessors (slice_index (first_words g) place - 1) == 0) ≡ true)
  word_at place lt = All-get_or (λ w. (1 ≤ w) × (w ≤ g.tasks) × ((slice_index g.predecessors (w - 1) == 0) ≡ true)) (first_words g) place 0 lt (are_first (λ t. slice_index g.predecessors t == 0) g.tasks)

  nobody : (test : View → Bool) → test Idle ≡ false → test Unmade ≡ false → count_by test (start g seats).views ≡ 0
  nobody test idle unmade = none_at (λ v. cond (test v) 1 0) seats (number_false (test Idle) idle) (number_false (test Unmade) unmade)

  unfinished : (t : ℕ) → is_finished (start g seats).published (start g seats).views t ≡ false
  unfinished t = and_left _ _ (ne_eqb (slice_index (replicate g.tasks 0) t) 1 (λ z. omega (arith, zeros g.tasks t)))

  unlowered : (test : Act → Bool) (t : ℕ) → is_behind g (start g seats).published (start g seats).views test t ≡ false
  unlowered test t =
      ap (λ (b : Bool). b || nat_lt 0 (number_behind g (start g seats).views test t)) (unfinished t)
      ∙ ap (nat_lt 0) (nobody (has_behind g test t) refl refl)

  waiting : (e : ℕ) → e < g.tasks → slice_index g.predecessors e ≡ count_by (λ first. follows g first e) (tasks_of g)
  waiting e lt = valid.order.predecessors e lt

  in_ring : (e : ℕ) → e < g.tasks → number_in (start g seats).ring e ≡ cond (slice_index g.predecessors e == 0) 1 0
  in_ring e lt =
      sum_by-append (λ w. cond (w == e + 1) 1 0) (first_words g) (replicate (g.tasks - length (first_words g)) 0)
      ∙ ap (λ (n : ℕ). number_in (first_words g) e + n) (zero_words (g.tasks - length (first_words g)) e)
      ∙ (let z : number_in (first_words g) e + 0 ≡ number_in (first_words g) e = omega arith in z)
      ∙ word_of (λ t. slice_index g.predecessors t == 0) (tasks_of g) e
      ∙ by_test (cases_Bool (slice_index g.predecessors e == 0))
    where
      by_test : ((slice_index g.predecessors e == 0) ≡ true) ⊎ ((slice_index g.predecessors e == 0) ≡ false) → count_by (λ t. (slice_index g.predecessors t == 0) && (t == e)) (tasks_of g) ≡ cond (slice_index g.predecessors e == 0) 1 0
      by_test (inl met) =
          counts_but_one (λ t. (slice_index g.predecessors t == 0) && (t == e)) (λ t. false) g.tasks e lt (and_from _ _ met (eq-eqb e e refl)) refl (λ t within other. and_right _ _ (ne_eqb t e other))
          ∙ omega (arith, sum_zero (tasks_of g), number_true (slice_index g.predecessors e == 0) met)
      by_test (inr unmet) =
          count_alike (λ t. (slice_index g.predecessors t == 0) && (t == e)) (λ t. false) g.tasks (λ t within. each t (cases_eq t e))
          ∙ omega (arith, sum_zero (tasks_of g), number_false (slice_index g.predecessors e == 0) unmet)
        where
          each : (t : ℕ) → (t ≡ e) ⊎ (t ≡ e → ⊥) → ((slice_index g.predecessors t == 0) && (t == e)) ≡ false
          each t (inl is) = and_left _ _ (ap (λ (u : ℕ). slice_index g.predecessors u == 0) is ∙ unmet)
          each t (inr other) = and_right _ _ (ne_eqb t e other)

  -- a task in the ring follows no other
  first_follows : (place task before : ℕ) → slice_index (start g seats).ring place ≡ task + 1 → before < g.tasks → follows g before task ≡ true → ⊥
  first_follows place task before stands lt after = by_order (cases_lt place (length (first_words g))) where
    by_order : (place < length (first_words g)) ⊎ (length (first_words g) ≤ place) → ⊥
    by_order (inr past) = omega (arith, ring_past place past)
    by_order (inl within) =
        let word = word_at place within in
        let is : slice_index (first_words g) place ≡ task + 1 = sym (ring_below place within) ∙ stands in
        let less : slice_index (first_words g) place - 1 ≡ task = omega arith in
        let none : slice_index g.predecessors task ≡ 0 = eqb-true _ _ (sym (ap (λ (t : ℕ). slice_index g.predecessors t == 0) less) ∙ word.2) in
        omega (arith, none, waiting task (omega arith), count_one (λ first. follows g first task) g.tasks before lt after)

  slot_stands : (slot : ℕ) → slot < g.slots →
      SlotStands (is_unwritten g (start g seats).published slot) (slice_index g.uses slot) (slice_index (start g seats).turn slot) (slice_index_or (start g seats).home slot false) (number_at g (start g seats).views is_anything (closes slot)) (number_at g (start g seats).views is_scrub (lowers_use slot))
  slot_stands slot within = by_age (cases_lt slot g.old) where
    unpublished : (t : ℕ) → (writes g t slot && not (slice_index (start g seats).published t == 1)) ≡ writes g t slot
    unpublished t = ap (λ (w : ℕ). writes g t slot && not (w == 1)) (zeros g.tasks t) ∙ and-true (writes g t slot)

    nobody_closes : number_at g (start g seats).views is_anything (closes slot) ≡ 0
    nobody_closes = nobody (is_at g is_anything (closes slot)) refl refl

    by_age : (slot < g.old) ⊎ (g.old ≤ slot) → SlotStands (is_unwritten g (start g seats).published slot) (slice_index g.uses slot) (slice_index (start g seats).turn slot) (slice_index_or (start g seats).home slot false) (number_at g (start g seats).views is_anything (closes slot)) (number_at g (start g seats).views is_scrub (lowers_use slot))
    by_age (inl old) =
        Free (none_below _ g.tasks (λ t lt. unpublished t ∙ unwritten t lt (cases_Bool (writes g t slot))))
        (omega (arith, valid.slots.uses slot within, valid.slots.wanted slot old))
        (zeros g.slots slot)
        (get_or_append_left (replicate g.old true) (replicate (g.slots - g.old) false) false slot (omega (arith, length-replicate g.old true)) ∙ get_or-replicate g.old slot true false old)
        nobody_closes
      where
        unwritten : (t : ℕ) → t < g.tasks → (writes g t slot ≡ true) ⊎ (writes g t slot ≡ false) → writes g t slot ≡ false
        unwritten t lt (inl too) = absurd (omega (arith, count_one (λ u. writes g u slot) g.tasks t lt too, valid.slots.unwritten slot old))
        unwritten t lt (inr none) = none
    by_age (inr new) =
        Unwritten (some_writer (cases_Bool (list_any (λ t. writes g t slot && not (slice_index (start g seats).published t == 1)) (tasks_of g))))
        (zeros g.slots slot) away nobody_closes
      where
        away : slice_index_or (start g seats).home slot false ≡ false
        away =
            ap (λ (k : ℕ). slice_index_or (start g seats).home k false) (let e : slot ≡ length (replicate g.old true) + (slot - g.old) = omega (arith, length-replicate g.old true) in e)
            ∙ get_or-append-add (replicate g.old true) (replicate (g.slots - g.old) false) (slot - g.old) false
            ∙ get_or-replicate (g.slots - g.old) (slot - g.old) false false (omega arith)

        some_writer : (list_any (λ t. writes g t slot && not (slice_index (start g seats).published t == 1)) (tasks_of g) ≡ true) ⊎ (list_any (λ t. writes g t slot && not (slice_index (start g seats).published t == 1)) (tasks_of g) ≡ false) → is_unwritten g (start g seats).published slot ≡ true
        some_writer (inl met) = met
        some_writer (inr unmet) = absurd (omega (arith, valid.slots.written slot new within, count_alike (λ t. writes g t slot) (λ t. false) g.tasks (λ t lt. none t lt (cases_Bool (writes g t slot))), sum_zero (tasks_of g))) where
          none : (t : ℕ) → t < g.tasks → (writes g t slot ≡ true) ⊎ (writes g t slot ≡ false) → writes g t slot ≡ false
          none t lt (inl too) = absurd (false≢true (sym unmet ∙ any_below _ g.tasks t lt (unpublished t ∙ too)))
          none t lt (inr fine) = fine

  uses_at : (slot : ℕ) → slot < g.slots → slice_index g.uses slot ≡ count_by (λ t. (reads g t slot || writes g t slot) && not (is_behind g (start g seats).published (start g seats).views (lowers_use slot) t)) (tasks_of g) + cond (is_kept g slot) 1 0
  uses_at slot within =
      omega (
        arith,
        valid.slots.uses slot within,
        either,
        count_alike (λ t. (reads g t slot || writes g t slot) && not (is_behind g (start g seats).published (start g seats).views (lowers_use slot) t)) (λ t. (reads g t slot || writes g t slot) && true) g.tasks
            (λ t lt. ap (λ (b : Bool). (reads g t slot || writes g t slot) && not b) (unlowered (lowers_use slot) t)),
        count_alike (λ t. (reads g t slot || writes g t slot) && true) (λ t. reads g t slot || writes g t slot) g.tasks (λ t lt. and-true (reads g t slot || writes g t slot)),
      )
    where
      apart : (t : ℕ) → t < g.tasks → reads g t slot ≡ true → writes g t slot ≡ false
      apart t lt read = by_test (cases_Bool (writes g t slot)) where
        by_test : (writes g t slot ≡ true) ⊎ (writes g t slot ≡ false) → writes g t slot ≡ false
        by_test (inl written) = absurd (let forward = valid.order.forward t t lt lt (reader_follows g t t slot written read) in omega arith)
        by_test (inr none) = none

      either : count_by (λ t. reads g t slot || writes g t slot) (tasks_of g) ≡ readers g slot + writers g slot
      either = count_either (λ t. reads g t slot) (λ t. writes g t slot) g.tasks apart

  waits_at : (e : ℕ) → e < g.tasks → slice_index g.predecessors e ≡ count_by (λ first. follows g first e && not (is_behind g (start g seats).published (start g seats).views (lowers_successor e) first)) (tasks_of g)
  waits_at e lt =
      waiting e lt
      ∙ count_alike (λ first. follows g first e) (λ first. follows g first e && not (is_behind g (start g seats).published (start g seats).views (lowers_successor e) first)) g.tasks
      (λ t within. sym (ap (λ (b : Bool). follows g t e && not b) (unlowered (lowers_successor e) t) ∙ and-true (follows g t e)))

  pub start_sound : IsSound (start g seats)
  start_sound = record {
    graph = valid;
    shapes = record {
      ring_length = length-append (first_words g) (replicate (g.tasks - length (first_words g)) 0) ∙ omega (arith, few_words, length-replicate (g.tasks - length (first_words g)) zero_word);
      dep_length = valid.lengths.predecessors;
      published_length = length-replicate g.tasks zero_word;
      left_length = valid.lengths.uses;
      turn_length = length-replicate g.slots zero_word;
      home_length = length-append (replicate g.old true) (replicate (g.slots - g.old) false) ∙ omega (arith, valid.lengths.old, length-replicate g.old true, length-replicate (g.slots - g.old) false);
      some_seat = omega (arith, long);
      few_seats = omega (arith, long);
      published_words = All-replicate (λ w. w ≤ 1) g.tasks 0 (omega arith);
      turn_words = All-replicate (λ w. w ≤ 2) g.slots 0 (omega arith);
      abort_word = omega arith;
      views_fit = All-cons (λ (v : View). IsTrue (is_in_shape g v)) Idle (replicate (seats - 1) Unmade) refl (All-replicate (λ (v : View). IsTrue (is_in_shape g v)) (seats - 1) Unmade refl);
    };
    tickets = record { below = λ p held. absurd (omega (arith, nobody (holds p) refl refl)); apart = λ p. omega (arith, nobody (holds p) refl refl) };
    ring = record {
      room = few_words;
      empty = λ p le. ring_past p le;
      filled = λ p lt. let word = word_at p lt in inl (omega (arith, ring_below p lt), omega (arith, ring_below p lt), nobody (is_at g (is_put_at p) does_something) refl refl);
      owed = λ p held. absurd (omega (arith, nobody (is_at g (is_put_at p) does_something) refl refl));
      once = λ t lt. omega (arith, in_ring t lt, nobody (is_at g is_in_hand (lowers_successor t)) refl refl);
      ordered = λ p t before there lt after. ordered p t before there lt after;
    };
    running = record {
      drawn = λ t lt begun. absurd (omega (arith, nobody (runs t) refl refl, zeros g.tasks t));
      apart = λ t. omega (arith, nobody (runs t) refl refl);
      told = λ t ran. absurd (omega (arith, nobody (runs t) refl refl));
    };
    dependencies = record { counts = waits_at };
    uses = record { counts = uses_at };
    slots = record { unused = λ slot due. absurd (omega (arith, nobody (is_at g is_scrub (lowers_use slot)) refl refl)); stands = slot_stands };
    done = record { count = sym (count_alike (is_finished (start g seats).published (start g seats).views) (λ t. false) g.tasks (λ t lt. unfinished t) ∙ sum_zero (tasks_of g)) };
    head = record { drawn = omega arith; all = sum_at seats_of seats ∙ omega (arith, long) };
    nothing_lost = record {
      aborted = (λ set. absurd (omega (arith, set)), λ halted. absurd (omega (arith, none_at halted_of seats refl refl)));
      ended = λ gone. absurd (omega (arith, none_at gone_of seats refl refl));
      begun = λ p lt room. absurd (omega arith);
    };
  } where
    zero_word : ℕ
    zero_word = 0

    long : length (start g seats).views ≡ seats
    long = ap suc (length-replicate (seats - 1) Unmade) ∙ omega arith

    ordered : (p t before : ℕ) → (slice_index (start g seats).ring p ≡ t + 1) ⊎ (1 ≤ number_at g (start g seats).views (is_put_at p) (lowers_successor t)) → before < g.tasks → follows g before t ≡ true → StandsBelow (start g seats).ring p before
    ordered p t before (inl there) lt after = absurd (first_follows p t before there lt after)
    ordered p t before (inr put) lt after = absurd (omega (arith, nobody (is_at g (is_put_at p) (lowers_successor t)) refl refl))

pub sound_at_start : (c : Core) (g : Graph) (seats : ℕ) → c ≡ start g seats → IsValid g → 1 ≤ seats → seats ≤ 64 → IsSound c
sound_at_start c g seats is valid some few = subst IsSound (sym is) (start_sound g valid seats some few)
