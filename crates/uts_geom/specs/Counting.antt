-- Numbers counted from one up, by place, and elements of lists that are joined.
use Rattle.std.proofs.Common.{◌≡◌, ◌∙◌, ◌≤◌, ◌<◌, ◌+◌, ◌⊎◌, inl, inr, ℕ, zero, suc, List, [], ◌∷◌, ◌++◌, length, ap, sym, refl, arith, length-append, Some}
use Rattle.std.specs.Prelude.{slice_get}
use Rattle.std.proofs.Math.Nat.{eq-or-lt_of_le}
use Rattle.uts_geom.specs.Spans.{counted}

pub get_left : {A : Type 0} (xs ys : List A) (k : ℕ) → k < length xs → slice_get (xs ++ ys) k ≡ slice_get xs k
get_left [] ys k below = absurd (omega arith)
get_left (x ∷ xs) ys zero below = refl
get_left (x ∷ xs) ys (suc k) below = get_left xs ys k (omega arith)

pub get_right : {A : Type 0} (xs ys : List A) (n k : ℕ) → n ≡ length xs + k → slice_get (xs ++ ys) n ≡ slice_get ys k
get_right [] ys n k at = ap (slice_get ys) (let e : n ≡ k = omega arith in e)
get_right (x ∷ xs) ys zero k at = absurd (omega arith)
get_right (x ∷ xs) ys (suc n) k at = get_right xs ys n k (omega arith)

pub length-counted : (low n : ℕ) → length (counted low n) ≡ n
length-counted low zero = refl
length-counted low (suc n) = length-append (counted low n) ((low + n) ∷ []) ∙ omega (arith, length-counted low n)

pub get-counted : (low n k : ℕ) → k < n → slice_get (counted low n) k ≡ Some (low + k)
get-counted low zero k below = absurd (omega arith)
get-counted low (suc n) k below = by_case (eq-or-lt_of_le (let le : k ≤ n = omega arith in le)) (λ less. get-counted low n k less)
  where
    by_case : (k ≡ n) ⊎ (k < n) → (k < n → slice_get (counted low n) k ≡ Some (low + k)) → slice_get (counted low (suc n)) k ≡ Some (low + k)
    by_case (inl same) before =
        get_right (counted low n) ((low + n) ∷ []) k 0 (omega (arith, length-counted low n))
        ∙ ap (λ j. Some (low + j)) (sym same)
    by_case (inr less) before = get_left (counted low n) ((low + n) ∷ []) k (omega (arith, length-counted low n)) ∙ before less

pub within : {A : Type 0} (xs : List A) (k : ℕ) (x : A) → slice_get xs k ≡ Some x → k < length xs
within [] k x at = absurd cc
within (y ∷ ys) zero x at = omega arith
within (y ∷ ys) (suc k) x at = let rest = within ys k x at in omega (arith, rest)

-- each number stands at its own place
pub at-counted : (n k x : ℕ) → slice_get (counted 0 n) k ≡ Some x → (x ≡ k) × (k < n)
at-counted n k x at =
    let below : k < n = omega (arith, within (counted 0 n) k x at, length-counted 0 n) in
    let got = get-counted 0 n k below in
    let same : 0 + k ≡ x = cc in
    (omega (arith, same), below)

pub counted-at : (n k : ℕ) → k < n → slice_get (counted 0 n) k ≡ Some k
counted-at n k below = get-counted 0 n k below ∙ ap Some (let e : 0 + k ≡ k = omega arith in e)
