-- Ascending numbers, by what stands among them.
use Rattle.std.proofs.Common.{◌≡◌, ◌∙◌, ◌<◌, ◌≤◌, ◌+◌, ◌⊎◌, inl, inr, ℕ, zero, suc, List, [], ◌∷◌, Bool, true, false, Some, length, get_or, ap, sym, refl, arith, subst}
use Rattle.std.specs.Prelude.{slice_get, All, ◌==◌, ◌||◌}
use Rattle.std.specs.List.Sorted.{IsStrictlyIncreasing}
use Rattle.std.proofs.lemmas.Bool.{cases_lt, eq-eqb, eqb-true, ne_eqb, or_cases, true≢false}
use Rattle.std.proofs.lemmas.List.Elements.{All-from_get_or}
use Rattle.std.proofs.lemmas.Option.{get_or_from_slice_get}
use Rattle.uts_geom.specs.Spans.{counted}
use Rattle.uts_geom.specs.Counting.{get-counted, length-counted}
use Rattle.uts_geom.specs.Lists.{placed}
use Rattle.graph_types.specs.Counting.{has_all, has_from}
use Rattle.graph_types.specs.Graph.{IsSlotList, has}
use Rattle.graph_compiler.specs.Plan.{places_of}
use Rattle.graph_compiler.proofs.ValidLists.{are_places as all_places, has-places}

or_true : (b : Bool) → (b || true) ≡ true
or_true true = refl
or_true false = refl

-- what is behind the first number is above it
above_first : (x : ℕ) (xs : List ℕ) → IsStrictlyIncreasing (x ∷ xs) → (k : ℕ) → k < length xs → x < get_or xs k 0
above_first x xs up zero below = up 0 (omega arith)
above_first x xs up (suc k) below =
    let step : get_or xs k 0 < get_or xs (suc k) 0 = subst (λ (m : ℕ). get_or (x ∷ xs) (suc k) 0 < get_or (x ∷ xs) m 0) (let e : suc k + 1 ≡ suc (suc k) = omega arith in e) (up (suc k) (omega arith)) in
    omega (arith, above_first x xs up k (omega arith), step)

rest_ascends : (x : ℕ) (xs : List ℕ) → IsStrictlyIncreasing (x ∷ xs) → IsStrictlyIncreasing xs
rest_ascends x xs up = λ k below.
    let e : suc k + 1 ≡ suc (k + 1) = omega arith in
    subst (λ (m : ℕ). get_or (x ∷ xs) (suc k) 0 < get_or (x ∷ xs) m 0) e (up (suc k) (omega arith))

has_above : (x : ℕ) (xs : List ℕ) → IsStrictlyIncreasing (x ∷ xs) → (n : ℕ) → has xs n ≡ true → x < n
has_above x xs up n there = has_all (λ m. x < m) xs (All-from_get_or (λ m. x < m) xs 0 (above_first x xs up)) n there

-- ascending lists with the same numbers are the same
pub same_members : (xs ys : List ℕ) → IsStrictlyIncreasing xs → IsStrictlyIncreasing ys → ((n : ℕ) → has xs n ≡ has ys n) → xs ≡ ys
same_members [] [] up too same = refl
same_members [] (y ∷ ys) up too same = absurd (true≢false (sym (ap (λ (b : Bool). b || has ys y) (eq-eqb y y refl)) ∙ sym (same y)))
same_members (x ∷ xs) [] up too same = absurd (true≢false (sym (ap (λ (b : Bool). b || has xs x) (eq-eqb x x refl)) ∙ same x))
same_members (x ∷ xs) (y ∷ ys) up too same = ap (λ (z : ℕ). z ∷ xs) first ∙ ap (λ (zs : List ℕ). y ∷ zs) (same_members xs ys (rest_ascends x xs up) (rest_ascends y ys too) rest)
  where
    x_there : has (y ∷ ys) x ≡ true
    x_there = sym (same x) ∙ ap (λ (b : Bool). b || has xs x) (eq-eqb x x refl)

    y_there : has (x ∷ xs) y ≡ true
    y_there = same y ∙ ap (λ (b : Bool). b || has ys y) (eq-eqb y y refl)

    first : x ≡ y
    first = elim (or_cases (y == x) (has ys x) x_there) [
      | inl here ↦ sym (eqb-true y x here)
      | inr later ↦ elim (or_cases (x == y) (has xs y) y_there) [
        | inl here ↦ eqb-true x y here
        | inr behind ↦ absurd (omega (arith, has_above y ys too x later, has_above x xs up y behind))
      ]
    ]

    rest : (n : ℕ) → has xs n ≡ has ys n
    rest n = by_bools (has xs n) (has ys n) refl refl
      where
        by_bools : (b d : Bool) → has xs n ≡ b → has ys n ≡ d → b ≡ d
        by_bools true true is too_is = refl
        by_bools false false is too_is = refl
        by_bools true false is too_is =
            let above : x < n = has_above x xs up n is in
            let here : has (x ∷ xs) n ≡ true = ap (λ (b : Bool). (x == n) || b) is ∙ or_true (x == n) in
            let there : has (y ∷ ys) n ≡ false =
            ap (λ (b : Bool). b || has ys n) (ne_eqb y n (λ e. omega (arith, above, first, e))) ∙ too_is in
            absurd (true≢false (sym here ∙ same n ∙ there))
        by_bools false true is too_is =
            let above : y < n = has_above y ys too n too_is in
            let there : has (y ∷ ys) n ≡ true = ap (λ (b : Bool). (y == n) || b) too_is ∙ or_true (y == n) in
            let here : has (x ∷ xs) n ≡ false =
            ap (λ (b : Bool). b || has xs n) (ne_eqb x n (λ e. omega (arith, above, first, e))) ∙ is in
            absurd (true≢false (sym there ∙ sym (same n) ∙ here))

-- the numbers from one up
pub counted-at-low : (low n k : ℕ) → k < n → get_or (counted low n) k 0 ≡ low + k
counted-at-low low n k below = get_or_from_slice_get (counted low n) k (low + k) 0 (get-counted low n k below)

pub counted-ascends : (low n : ℕ) → IsStrictlyIncreasing (counted low n)
counted-ascends low n = λ k below.
    let short : k + 1 < n = omega (arith, length-counted low n) in
    omega (arith, counted-at-low low n k (omega arith), counted-at-low low n (k + 1) short)

pub has-counted : (low n k : ℕ) → k < n → has (counted low n) (low + k) ≡ true
has-counted low n k below = has_from (counted low n) k (low + k) (omega (arith, length-counted low n)) (counted-at-low low n k below)

pub counted-has : (low n m : ℕ) → has (counted low n) m ≡ true → (low ≤ m) × (m < low + n)
counted-has low n m there = has_all (λ k. (low ≤ k) × (k < low + n)) (counted low n) (All-from_get_or (λ k. (low ≤ k) × (k < low + n)) (counted low n) 0 (λ k below.
    let short : k < n = omega (arith, length-counted low n) in
    (omega (arith, counted-at-low low n k short), omega (arith, counted-at-low low n k short)))) m there

-- The places of what passes are those of an ascending list, where the list has each place of what passes and no other.
pub are_places : {A : Type 0} (test : A → Bool) (items : List A) (numbers : List ℕ) → IsStrictlyIncreasing numbers
    → All (λ place. place < length items) numbers
    → ((place : ℕ) (x : A) → slice_get items place ≡ Some x → has numbers place ≡ test x) → numbers ≡ places_of test items
are_places {A} test items numbers up within same = same_members numbers (places_of test items) up (slot_list.ascending) (λ n. by_place n (cases_lt n (length items)))
  where
    slot_list : IsSlotList (length items) (places_of test items)
    slot_list = all_places test items

    none_past : (xs : List ℕ) → All (λ place. place < length items) xs → (n : ℕ) → length items ≤ n → has xs n ≡ false
    none_past xs below n past = by_bool (has xs n) refl
      where
        by_bool : (b : Bool) → has xs n ≡ b → b ≡ false
        by_bool true is = absurd (omega (arith, has_all (λ place. place < length items) xs below n is))
        by_bool false is = refl

    by_place : (n : ℕ) → (n < length items) ⊎ (length items ≤ n) → has numbers n ≡ has (places_of test items) n
    by_place n (inl below) = let x = placed items n below in same n x.0 x.1 ∙ sym (has-places test items n x.0 x.1)
    by_place n (inr past) = none_past numbers within n past ∙ sym (none_past (places_of test items) slot_list.below n past)
