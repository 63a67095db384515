-- Sums over numbers below a bound, and sums of sums.
use Rattle.std.proofs.Common.{◌≡◌, ◌∙◌, ◌≤◌, ◌<◌, ◌+◌, ℕ, zero, suc, Bool, true, false, cond, ◌⊎◌, inl, inr, List, [], ◌∷◌, length, take, ap, sym, refl, arith}
use Rattle.std.specs.Prelude.{slice_index, All}
use Rattle.std.specs.List.{count_by, sum_by, range_with_len}
use Rattle.std.proofs.lemmas.Bool.{cases_eq, cases_Bool}
use Rattle.std.proofs.lemmas.List.Elements.{All-head, All-tail}
use Rattle.std.proofs.lemmas.List.Sums.{sum_by-cons, sum_by_push, sum_by_more, sum_by-take-le}
use Rattle.graph_types.specs.Counting.{range_suc}
use Rattle.sched_core.proofs.Lists.{number_le, number_false}

pub sum_zero : {A : Type 0} (xs : List A) → sum_by (λ x. 0) xs ≡ 0
sum_zero [] = refl
sum_zero (x ∷ xs) = omega (arith, sum_by-cons (λ y. 0) x xs, sum_zero xs)

pub sum_add : {A : Type 0} (f h : A → ℕ) (xs : List A) → sum_by (λ x. f x + h x) xs ≡ sum_by f xs + sum_by h xs
sum_add f h [] = refl
sum_add f h (x ∷ xs) = omega (arith, sum_by-cons (λ y. f y + h y) x xs, sum_by-cons f x xs, sum_by-cons h x xs, sum_add f h xs)

sum_alike : {A : Type 0} (f h : A → ℕ) (xs : List A) → ((x : A) → f x ≡ h x) → sum_by f xs ≡ sum_by h xs
sum_alike f h [] same = refl
sum_alike f h (x ∷ xs) same = omega (arith, sum_by-cons f x xs, sum_by-cons h x xs, same x, sum_alike f h xs same)

-- a sum of sums in either order
pub sum_swap : {A B : Type 0} (f : A → B → ℕ) (xs : List A) (ys : List B) → sum_by (λ x. sum_by (f x) ys) xs ≡ sum_by (λ y. sum_by (λ x. f x y) xs) ys
sum_swap f [] ys = sym (sum_zero ys)
sum_swap f (x ∷ xs) ys =
    sum_by-cons (λ z. sum_by (f z) ys) x xs
    ∙ ap (λ (n : ℕ). sum_by (f x) ys + n) (sum_swap f xs ys)
    ∙ sym (sum_add (f x) (λ y. sum_by (λ z. f z y) xs) ys)
    ∙ sym (sum_alike (λ y. sum_by (λ z. f z y) (x ∷ xs)) (λ y. f x y + sum_by (λ z. f z y) xs) ys (λ y. sum_by-cons (λ z. f z y) x xs))

-- a sum of terms that are less, each in the list
pub sum_less : {A : Type 0} (f h : A → ℕ) (xs : List A) → All (λ x. f x ≤ h x) xs → sum_by f xs ≤ sum_by h xs
sum_less f h [] all = omega arith
sum_less f h (x ∷ xs) all = omega (arith, sum_by-cons f x xs, sum_by-cons h x xs, All-head (λ y. f y ≤ h y) x xs all, sum_less f h xs (All-tail (λ y. f y ≤ h y) x xs all))

-- Sums over the numbers below a bound.
sum_push : (f : ℕ → ℕ) (n : ℕ) → sum_by f (range_with_len 0 (suc n)) ≡ sum_by f (range_with_len 0 n) + f n
sum_push f n = ap (sum_by f) (range_suc n) ∙ sum_by_push f (range_with_len 0 n) n

pub sum_at_most : (f : ℕ → ℕ) (n : ℕ) → ((k : ℕ) → k < n → f k ≤ 1) → sum_by f (range_with_len 0 n) ≤ n
sum_at_most f zero h = omega arith
sum_at_most f (suc n) h = omega (arith, sum_push f n, h n (omega arith), sum_at_most f n (λ k lt. h k (omega arith)))

pub sum_at_least : (f : ℕ → ℕ) (n : ℕ) → ((k : ℕ) → k < n → 1 ≤ f k) → n ≤ sum_by f (range_with_len 0 n)
sum_at_least f zero h = omega arith
sum_at_least f (suc n) h = omega (arith, sum_push f n, h n (omega arith), sum_at_least f n (λ k lt. h k (omega arith)))

-- a test that one number at most passes
pub counts_few : (test : ℕ → Bool) (only n : ℕ) → ((k : ℕ) → test k ≡ true → k ≡ only) → (count_by test (range_with_len 0 n) ≤ 1) × (n ≤ only → count_by test (range_with_len 0 n) ≡ 0)
counts_few test only zero h = (omega arith, λ le. refl)
counts_few test only (suc n) h = by_number (cases_eq n only) (counts_few test only n h) where
  by_number : (n ≡ only) ⊎ (n ≡ only → ⊥) → (count_by test (range_with_len 0 n) ≤ 1) × (n ≤ only → count_by test (range_with_len 0 n) ≡ 0) →
      (count_by test (range_with_len 0 (suc n)) ≤ 1) × (suc n ≤ only → count_by test (range_with_len 0 (suc n)) ≡ 0)
  by_number (inl e) before =
      (omega (arith, sum_push (λ k. cond (test k) 1 0) n, before.1 (omega (arith, e)), number_le (test n)), λ le. absurd (omega (arith, e, le)))
  by_number (inr other) before = by_test (cases_Bool (test n)) where
    by_test : (test n ≡ true) ⊎ (test n ≡ false) → (count_by test (range_with_len 0 (suc n)) ≤ 1) × (suc n ≤ only → count_by test (range_with_len 0 (suc n)) ≡ 0)
    by_test (inl met) = absurd (other (h n met))
    by_test (inr unmet) = (
      omega (arith, sum_push (λ k. cond (test k) 1 0) n, before.0, number_false (test n) unmet),
      λ le. omega (arith, sum_push (λ k. cond (test k) 1 0) n, before.1 (omega (arith, le)), number_false (test n) unmet),
    )

-- the first so many elements of a list, by their places
pub sum_front : (f : ℕ → ℕ) (xs : List ℕ) (n : ℕ) → n ≤ length xs → sum_by (λ k. f (slice_index xs k)) (range_with_len 0 n) ≤ sum_by f xs
sum_front f xs n le = omega (arith, taken n le, sum_by-take-le f xs n) where
  taken : (n : ℕ) → n ≤ length xs → sum_by (λ k. f (slice_index xs k)) (range_with_len 0 n) ≤ sum_by f (take n xs)
  taken zero le = omega arith
  taken (suc n) le =
      let e : n + 1 ≡ suc n = omega arith in
      omega (arith, sum_push (λ k. f (slice_index xs k)) n, taken n (omega (arith, le)), sum_by_more f xs n 0 (omega (arith, le)), ap (λ (m : ℕ). sum_by f (take m xs)) e)
