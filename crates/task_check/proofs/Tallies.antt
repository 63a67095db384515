-- Tallies of slots, one list after another.
use Rattle.std.proofs.Common.{◌≡◌, ◌∙◌, ◌≤◌, ◌<◌, ◌+◌, ◌*◌, ℕ, List, [], ◌∷◌, ◌++◌, Bool, true, false, cond, length, map, get_or, take, ap, sym, refl, arith, subst, add-one, zero-add, append-nil}
use Rattle.std.specs.Prelude.{filter}
use Rattle.std.specs.List.{sum_by, flat_map}
use Rattle.std.proofs.lemmas.List.{take_more}
use Rattle.std.proofs.lemmas.List.Sums.{sum_by-append, length-filter}
use Rattle.std.proofs.lemmas.List.Concat.{flat_map-append}
use Rattle.uts_geom.specs.Spans.{counted}
use Rattle.problem_types.specs.declared.problem.Problem.{Problem}
use Rattle.problem_types.specs.declared.problem.Task.{Task}
use Rattle.task_check.specs.Plan.{Slot, is_read}
use Rattle.task_check.specs.Counts.{slot_size}
use Rattle.task_check.specs.Tallies.{HasAtMost, IsTally}
use Rattle.task_check.specs.declared.plan.tally.Tally.{Tally}
use Rattle.task_check.proofs.Sums.{sum-filter, sum-nothing, sum-map}

module _ (p : Problem) (tasks : List Task) where
  abbrev counts : Slot → ℕ
  counts s = cond (is_read p tasks s) 1 0

  abbrev sizes : Slot → ℕ
  sizes s = cond (is_read p tasks s) (slot_size p tasks s) 0

  pub tally_none : (a : Tally) → a.slots ≡ 0 → a.numbers ≡ 0 → IsTally p tasks [] a
  tally_none a slots numbers = record { count = slots; size = numbers }

  pub tally_both : (xs ys : List Slot) (a b c : Tally) → IsTally p tasks xs a → IsTally p tasks ys b → c.slots ≡ a.slots + b.slots → c.numbers ≡ a.numbers + b.numbers →
      IsTally p tasks (xs ++ ys) c
  tally_both xs ys a b c of_xs of_ys slots numbers = record {
    count = omega (arith, slots, of_xs.count, of_ys.count, sum_by-append counts xs ys);
    size = omega (arith, numbers, of_xs.size, of_ys.size, sum_by-append sizes xs ys);
  }

  pub tally_one : (s : Slot) (a : Tally) → a ≡ cond (is_read p tasks s) (record { slots = 1; numbers = slot_size p tasks s }) (record { slots = 0; numbers = 0 }) →
      IsTally p tasks (s ∷ []) a
  tally_one s a is = record {
    count = ap (λ (t : Tally). t.slots) is ∙ slots_of (is_read p tasks s) (slot_size p tasks s) ∙ sym (zero-add (counts s));
    size = ap (λ (t : Tally). t.numbers) is ∙ numbers_of (is_read p tasks s) (slot_size p tasks s) ∙ sym (zero-add (sizes s));
  }
    where
      slots_of : (b : Bool) (n : ℕ) → (cond {A = Tally} b (record { slots = 1; numbers = n }) (record { slots = 0; numbers = 0 })).slots ≡ cond b 1 0
      slots_of true n = refl
      slots_of false n = refl

      numbers_of : (b : Bool) (n : ℕ) → (cond {A = Tally} b (record { slots = 1; numbers = n }) (record { slots = 0; numbers = 0 })).numbers ≡ cond b n 0
      numbers_of true n = refl
      numbers_of false n = refl

  pub tally_read : (s : Slot) (read : Bool) (n : ℕ) (a : Tally) → read ≡ is_read p tasks s → n ≡ slot_size p tasks s →
      a ≡ cond read (record { slots = 1; numbers = n }) (record { slots = 0; numbers = 0 }) → IsTally p tasks (s ∷ []) a
  tally_read s read n a same size is = tally_one s a (is
      ∙ ap (λ (b : Bool). cond {A = Tally} b (record { slots = 1; numbers = n }) (record { slots = 0; numbers = 0 })) same
      ∙ ap (λ (k : ℕ). cond {A = Tally} (is_read p tasks s) (record { slots = 1; numbers = k }) (record { slots = 0; numbers = 0 })) size)

  -- one more number, and one more value
  pub tally_counted : (f : ℕ → List Slot) (k : ℕ) (a b c : Tally) → IsTally p tasks (flat_map f (counted 0 k)) a → IsTally p tasks (f k) b →
      c.slots ≡ a.slots + b.slots → c.numbers ≡ a.numbers + b.numbers → IsTally p tasks (flat_map f (counted 0 (k + 1))) c
  tally_counted f k a b c before here slots numbers =
      let next : flat_map f (counted 0 (k + 1)) ≡ flat_map f (counted 0 k) ++ f k =
      ap (λ (n : ℕ). flat_map f (counted 0 n)) (add-one k)
      ∙ flat_map-append f (counted 0 k) ((0 + k) ∷ [])
      ∙ ap (λ (ss : List Slot). flat_map f (counted 0 k) ++ ss) (append-nil (f (0 + k)) ∙ ap f (zero-add k)) in
      subst (λ (ss : List Slot). IsTally p tasks ss c) (sym next) (tally_both (flat_map f (counted 0 k)) (f k) a b c before here slots numbers)

  pub tally_listed : {X : Type 0} (f : X → List Slot) (xs ys : List X) (i : ℕ) (d : X) (a b c : Tally) → ys ≡ xs → i < length ys →
      IsTally p tasks (flat_map f (take i xs)) a → IsTally p tasks (f (get_or ys i d)) b → c.slots ≡ a.slots + b.slots → c.numbers ≡ a.numbers + b.numbers →
      IsTally p tasks (flat_map f (take (i + 1) xs)) c
  tally_listed {X} f xs ys i d a b c same below before here slots numbers =
      let below_xs : i < length xs = subst (λ (zs : List X). i < length zs) same below in
      let here_xs : IsTally p tasks (f (get_or xs i d)) b = subst (λ (zs : List X). IsTally p tasks (f (get_or zs i d)) b) same here in
      let next : flat_map f (take (i + 1) xs) ≡ flat_map f (take i xs) ++ f (get_or xs i d) =
      ap (flat_map f) (take_more xs i d below_xs)
      ∙ flat_map-append f (take i xs) (get_or xs i d ∷ [])
      ∙ ap (λ (ss : List Slot). flat_map f (take i xs) ++ ss) (append-nil (f (get_or xs i d))) in
      subst (λ (ss : List Slot). IsTally p tasks ss c) (sym next) (tally_both (flat_map f (take i xs)) (f (get_or xs i d)) a b c before here_xs slots numbers)

  -- none of the slots is read
  pub unread_map : (f : ℕ → Slot) (xs : List ℕ) (a : Tally) → a ≡ record { slots = 0; numbers = 0 } → ((x : ℕ) → is_read p tasks (f x) ≡ false) → IsTally p tasks (map f xs) a
  unread_map f xs a is none = record {
    count = ap (λ (t : Tally). t.slots) is
        ∙ sym (sum-map counts f xs ∙ sum-nothing (λ x. counts (f x)) xs (λ k x at. ap (λ (b : Bool). cond b 1 0) (none x)));
    size = ap (λ (t : Tally). t.numbers) is
        ∙ sym (sum-map sizes f xs ∙ sum-nothing (λ x. sizes (f x)) xs (λ k x at. ap (λ (b : Bool). cond b (slot_size p tasks (f x)) 0) (none x)));
  }

  pub unread_flat_map : (f : ℕ → List Slot) (xs : List ℕ) (a : Tally) → a ≡ record { slots = 0; numbers = 0 } → ((x : ℕ) → IsTally p tasks (f x) a) → IsTally p tasks (flat_map f xs) a
  unread_flat_map f [] a is each = tally_none a (ap (λ (t : Tally). t.slots) is) (ap (λ (t : Tally). t.numbers) is)
  unread_flat_map f (x ∷ xs) a is each =
      let slots : a.slots ≡ 0 = ap (λ (t : Tally). t.slots) is in
      let numbers : a.numbers ≡ 0 = ap (λ (t : Tally). t.numbers) is in
      tally_both (f x) (flat_map f xs) a a a (each x) (unread_flat_map f xs a is each) (omega (arith, slots)) (omega (arith, numbers))

  -- a tally of all is what the filter lets through
  pub tally-slots : (ss : List Slot) (a : Tally) → IsTally p tasks ss a → a.slots ≡ length (filter (is_read p tasks) ss)
  tally-slots ss a is = is.count ∙ sym (length-filter (is_read p tasks) ss)

  pub tally-numbers : (ss : List Slot) (a : Tally) → IsTally p tasks ss a → a.numbers ≡ sum_by (slot_size p tasks) (filter (is_read p tasks) ss)
  tally-numbers ss a is = is.size ∙ sym (sum-filter (slot_size p tasks) (is_read p tasks) ss)

pub at_most_more : (n k : ℕ) (a b c : Tally) → HasAtMost (n * k) a → HasAtMost n b → c.slots ≡ a.slots + b.slots → c.numbers ≡ a.numbers + b.numbers → HasAtMost (n * (k + 1)) c
at_most_more n k a b c before here slots numbers = record {
  slots = omega (arith, slots, before.slots, here.slots);
  numbers = omega (arith, numbers, before.numbers, here.numbers);
}

pub at_most_one : (read : Bool) (n : ℕ) (a : Tally) → n ≤ 68769820673 → a ≡ cond read (record { slots = 1; numbers = n }) (record { slots = 0; numbers = 0 }) → HasAtMost 1 a
at_most_one true n a few is = record { slots = rw is (omega arith); numbers = rw is (omega (arith, few)) }
at_most_one false n a few is = record { slots = rw is (omega arith); numbers = rw is (omega arith) }

pub at_most : (m n : ℕ) (a : Tally) → m ≤ n → HasAtMost m a → HasAtMost n a
at_most m n a within few = record { slots = omega (arith, within, few.slots); numbers = omega (arith, within, few.numbers) }
