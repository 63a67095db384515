-- Values at their places in lists: what stands before a place, which place is the last one, and what stands at one place only.
use Rattle.std.proofs.Common.{◌≡◌, ◌∙◌, ◌<◌, ◌+◌, ◌⊎◌, inl, inr, ℕ, zero, suc, List, Bool, true, false, Some, length, take, drop, ap, refl, arith, subst}
use Rattle.std.specs.Prelude.{slice_get, slice_index, ◌==◌, Any}
use Rattle.std.specs.List.{count_by, list_any}
use Rattle.std.specs.List.Sorted.{IsStrictlyIncreasing}
use Rattle.std.proofs.lemmas.Bool.{cases_order, eqb-true, eq-eqb}
use Rattle.std.proofs.lemmas.Option.{slice_get_within, get_or_from_slice_get}
use Rattle.uts_geom.specs.Spans.{counted}
use Rattle.uts_geom.specs.Counting.{at-counted, counted-at}
use Rattle.uts_geom.specs.Lists.{get-drop, get-take, any_at}
use Rattle.task_check.proofs.Sums.{count-one}

-- what stands before a place
pub any_before : {A : Type 0} (P : A → Type 0) (xs : List A) (n k : ℕ) (x : A) → k < n → slice_get xs k ≡ Some x → P x → Any P (take n xs)
any_before P xs n k x before at holds =
    let there = get-take xs n k before ∙ at in (k, x, slice_get_within (take n xs) k x there, get_or_from_slice_get (take n xs) k x x there, holds)

-- what stands at no two places stands at one
pub one_by_order : (Q : ℕ → Type 0) → ((i j : ℕ) → i < j → Q i → Q j → ⊥) → (i j : ℕ) → Q i → Q j → i ≡ j
one_by_order Q never i j at_i at_j = by_order (cases_order i j)
  where
    by_order : (i ≡ j) ⊎ ((i < j) ⊎ (j < i)) → i ≡ j
    by_order (inl same) = same
    by_order (inr (inl before)) = absurd (never i j before at_i at_j)
    by_order (inr (inr after)) = absurd (never j i after at_j at_i)

-- a list that ascends has each number once
ascends : (xs : List ℕ) → IsStrictlyIncreasing xs → (i n : ℕ) → i + suc n < length xs → slice_index xs i < slice_index xs (i + suc n)
ascends xs up i zero below = let e : i + 1 ≡ i + suc zero = omega arith in subst (λ j. slice_index xs i < slice_index xs j) e (up i (omega arith))
ascends xs up i (suc n) below =
    let before = ascends xs up i n (omega arith) in
    let last : slice_index xs (i + suc n) < slice_index xs (i + suc n + 1) = up (i + suc n) (omega arith) in
    let e : i + suc n + 1 ≡ i + suc (suc n) = omega arith in
    let after : slice_index xs (i + suc n) < slice_index xs (i + suc (suc n)) = subst (λ j. slice_index xs (i + suc n) < slice_index xs j) e last in
    omega (arith, before, after)

gap_of : (i j : ℕ) → i < j → (n : ℕ) × (i + suc n ≡ j)
gap_of i zero before = absurd (omega arith)
gap_of zero (suc j) before = (j, omega arith)
gap_of (suc i) (suc j) before = let rest = gap_of i j (omega arith) in (rest.0, omega (arith, rest.1))

pub once_in_ascent : (xs : List ℕ) → IsStrictlyIncreasing xs → (i j x : ℕ) → slice_get xs i ≡ Some x → slice_get xs j ≡ Some x → i ≡ j
once_in_ascent xs up i j x at_i at_j = one_by_order (λ k. slice_get xs k ≡ Some x) never i j at_i at_j
  where
    never : (a b : ℕ) → a < b → slice_get xs a ≡ Some x → slice_get xs b ≡ Some x → ⊥
    never a b before at_a at_b =
        let gap = gap_of a b before in
        let below : b < length xs = slice_get_within xs b x at_b in
        let less = ascends xs up a gap.0 (omega (arith, below, gap.1)) in
        let less_at : slice_index xs a < slice_index xs b = subst (λ j. slice_index xs a < slice_index xs j) gap.1 less in
        let here : slice_index xs a ≡ x = get_or_from_slice_get xs a x 0 at_a in
        let there : slice_index xs b ≡ x = get_or_from_slice_get xs b x 0 at_b in
        omega (arith, less_at, here, there)

pub count-in_ascent : (xs : List ℕ) → IsStrictlyIncreasing xs → (i x : ℕ) → slice_get xs i ≡ Some x → count_by (λ y. y == x) xs ≡ 1
count-in_ascent xs up i x at = count-one (λ y. y == x) xs i x at (eq-eqb x x refl)
    (λ j y there same. once_in_ascent xs up j i x (there ∙ ap Some (eqb-true y x same)) at)

pub count-counted : (n k : ℕ) → k < n → count_by (λ j. j == k) (counted 0 n) ≡ 1
count-counted n k below = count-one (λ j. j == k) (counted 0 n) k k (counted-at n k below) (eq-eqb k k refl)
    (λ j y there same. let at = at-counted n j y there in let e = eqb-true y k same in omega (arith, at.0, e))

-- no later one passes
pub none_later : {A : Type 0} (p : A → Bool) (xs : List A) (k j : ℕ) (x : A) → list_any p (drop (k + 1) xs) ≡ false → k < j → slice_get xs j ≡ Some x → p x ≡ true → ⊥
none_later p xs k j x none after at passes =
    let gap = gap_of k j after in
    let e : k + 1 + gap.0 ≡ j = omega (arith, gap.1) in
    let there = any_at p (drop (k + 1) xs) gap.0 x (get-drop xs (k + 1) gap.0 ∙ ap (slice_get xs) e ∙ at) passes in
    cc
