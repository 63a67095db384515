-- Elements of lists by their place, and counts of the numbers below a bound.
use Rattle.std.proofs.Common.{◌≡◌, ◌∙◌, ◌≤◌, ◌<◌, ◌+◌, ℕ, zero, suc, Bool, true, false, cond, ◌⊎◌, inl, inr, List, [], ◌∷◌, ◌++◌, Option, None, length, get_or, ap, sym, refl, subst, arith, zero-add}
use Rattle.std.specs.Prelude.{All, slice_get, slice_index_or, unwrap_or}
use Rattle.std.specs.List.{count_by, list_any, range_with_len}
use Rattle.std.proofs.lemmas.Bool.{cases_eq}
use Rattle.std.proofs.lemmas.Option.{unwrap_or-slice_get}
use Rattle.std.proofs.lemmas.List.Elements.{All-weaker}
use Rattle.std.proofs.lemmas.List.Folds.{Any-from_list_any, list_any_at, list_any_none}
use Rattle.std.proofs.lemmas.List.FromFn.{get_or-range_with_len, length-range_with_len}
use Rattle.std.proofs.lemmas.List.Sums.{sum_by-cons, get_or-le-sum_by}
use Rattle.graph_types.specs.Counting.{all_below, any_alike, count_alike, count_suc}

-- a test as a number, as counts add it
abbrev pub number : Bool → ℕ
number b = cond b 1 0

pub number_true : (b : Bool) → b ≡ true → number b ≡ 1
number_true b h = ap number h

pub number_false : (b : Bool) → b ≡ false → number b ≡ 0
number_false b h = ap number h

pub number_le : (b : Bool) → number b ≤ 1
number_le true = omega arith
number_le false = omega arith

pub missing_or : {A : Type 0} (xs : List A) (i : ℕ) (d : A) → slice_get xs i ≡ None → slice_index_or xs i d ≡ d
missing_or xs i d h = sym (unwrap_or-slice_get xs i d) ∙ ap (λ (o : Option _). unwrap_or o d) h

pub slice_get-append : {A : Type 0} (xs ys : List A) (i : ℕ) → i < length xs → slice_get (xs ++ ys) i ≡ slice_get xs i
slice_get-append [] ys i h = absurd (omega arith)
slice_get-append (x ∷ xs) ys zero h = refl
slice_get-append (x ∷ xs) ys (suc i) h = slice_get-append xs ys i (omega arith)

pub slice_get-append_past : {A : Type 0} (xs ys : List A) (i j : ℕ) → i ≡ length xs + j → slice_get (xs ++ ys) i ≡ slice_get ys j
slice_get-append_past [] ys i j h = ap (slice_get ys) (let e : i ≡ j = omega arith in e)
slice_get-append_past (x ∷ xs) ys zero j h = absurd (omega arith)
slice_get-append_past (x ∷ xs) ys (suc i) j h = slice_get-append_past xs ys i j (omega arith)

-- Numbers below a bound.
pub each_below : (P : ℕ → Type 0) (n : ℕ) → ((k : ℕ) → k < n → P k) → All P (range_with_len 0 n)
each_below P n h = All-weaker (λ k. k < n) P h (range_with_len 0 n) (all_below n)

pub any_below : (test : ℕ → Bool) (n k : ℕ) → k < n → test k ≡ true → list_any test (range_with_len 0 n) ≡ true
any_below test n k lt met =
    list_any_at test (range_with_len 0 n) k 0 (omega (arith, length-range_with_len 0 n)) (ap test (get_or-range_with_len 0 n k 0 lt ∙ zero-add k) ∙ met)

pub none_below : (test : ℕ → Bool) (n : ℕ) → ((k : ℕ) → k < n → test k ≡ false) → list_any test (range_with_len 0 n) ≡ false
none_below test n h = list_any_none test (range_with_len 0 n) (each_below (λ k. test k ≡ false) n h)

pub alike_below : (p q : ℕ → Bool) (n : ℕ) → ((k : ℕ) → k < n → p k ≡ q k) → list_any p (range_with_len 0 n) ≡ list_any q (range_with_len 0 n)
alike_below p q n h = any_alike p q (range_with_len 0 n) (each_below (λ k. p k ≡ q k) n h)

pub any_found : (test : ℕ → Bool) (n : ℕ) → list_any test (range_with_len 0 n) ≡ true → (k : ℕ) × (k < n) × (test k ≡ true)
any_found test n h =
    let found = Any-from_list_any test (range_with_len 0 n) h in
    let within : found.0 < n = omega (arith, found.2, length-range_with_len 0 n) in
    (found.1, omega (arith, within, sym found.3 ∙ get_or-range_with_len 0 n found.0 found.1 within), found.4)

-- tests that are alike below a bound but at one number, where one holds and the other does not
pub counts_but_one : (p q : ℕ → Bool) (n at : ℕ) → at < n → p at ≡ true → q at ≡ false → ((k : ℕ) → k < n → (k ≡ at → ⊥) → p k ≡ q k) → count_by p (range_with_len 0 n) ≡ count_by q (range_with_len 0 n) + 1
counts_but_one p q zero at lt met unmet h = absurd (omega arith)
counts_but_one p q (suc n) at lt met unmet h = by_order (cases_eq n at) (λ less. counts_but_one p q n at less met unmet (λ k below. h k (omega arith))) where
  by_order : (n ≡ at) ⊎ (n ≡ at → ⊥) → (at < n → count_by p (range_with_len 0 n) ≡ count_by q (range_with_len 0 n) + 1) → count_by p (range_with_len 0 (suc n)) ≡ count_by q (range_with_len 0 (suc n)) + 1
  by_order (inl e) ih =
      let alike = count_alike p q n (λ k below. h k (omega arith) (λ is. omega arith)) in
      let pn : p n ≡ true = subst (λ (k : ℕ). p k ≡ true) (sym e) met in
      let qn : q n ≡ false = subst (λ (k : ℕ). q k ≡ false) (sym e) unmet in
      let x = number_true (p n) pn in
      let y = number_false (q n) qn in
      omega (arith, count_suc p n, count_suc q n, alike, x, y)
  by_order (inr ne) ih =
      let rest = ih (omega arith) in
      let same = ap number (h n (omega arith) ne) in
      omega (arith, count_suc p n, count_suc q n, rest, same)

-- a test that holds at two places holds twice
some_in : {A : Type 0} (test : A → Bool) (d x : A) (xs : List A) (j : ℕ) → test x ≡ true → j < length xs → test (get_or xs j d) ≡ true → count_by test (x ∷ xs) ≤ 1 → ⊥
some_in test d x xs j here below there le =
    let at = get_or-le-sum_by (λ y. cond (test y) 1 0) xs j d below in
    omega (arith, sum_by-cons (λ y. cond (test y) 1 0) x xs, at, number_true (test x) here, number_true (test (get_or xs j d)) there)

pub one_place : {A : Type 0} (test : A → Bool) (d : A) (xs : List A) (i j : ℕ) → i < length xs → j < length xs → test (get_or xs i d) ≡ true → test (get_or xs j d) ≡ true → count_by test xs ≤ 1 → i ≡ j
one_place test d [] i j hi hj ti tj le = absurd (omega arith)
one_place test d (x ∷ xs) zero zero hi hj ti tj le = refl
one_place test d (x ∷ xs) zero (suc j) hi hj ti tj le = absurd (some_in test d x xs j ti (omega arith) tj le)
one_place test d (x ∷ xs) (suc i) zero hi hj ti tj le = absurd (some_in test d x xs i tj (omega arith) ti le)
one_place test d (x ∷ xs) (suc i) (suc j) hi hj ti tj le =
    ap suc (one_place test d xs i j (omega arith) (omega arith) ti tj (omega (arith, sum_by-cons (λ y. cond (test y) 1 0) x xs)))
