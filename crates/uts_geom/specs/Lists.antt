-- What stands at the places of a list and of its parts, and what a list has.
use Rattle.std.proofs.Common.{◌≡◌, ◌∙◌, ◌<◌, ◌≤◌, ◌+◌, ◌⊎◌, inl, inr, ℕ, zero, suc, List, [], ◌∷◌, Bool, true, false, cond, Option, Some, None, length, take, drop, ap, refl, arith, subst}
use Rattle.std.specs.Prelude.{slice_get, All, Contains}
use Rattle.std.specs.List.{list_any, find}
use Rattle.std.specs.Option.{is_some, option_map_or}
use Rattle.std.proofs.lemmas.Bool.{cases_lt, false_from_ne_true}
use Rattle.std.proofs.lemmas.List.Folds.{Any-from_list_any, list_any_at}
use Rattle.std.proofs.lemmas.Option.{slice_get_within, slice_get-get_or, get_or_from_slice_get}

-- what is not above
pub not_above : (n m : ℕ) → (m < n → ⊥) → n ≤ m
not_above n m none = by_order (cases_lt m n)
  where
    by_order : (m < n) ⊎ (n ≤ m) → n ≤ m
    by_order (inl above) = absurd (none above)
    by_order (inr within) = within

-- ---- places

pub placed : {A : Type 0} (xs : List A) (n : ℕ) → n < length xs → (x : A) × (slice_get xs n ≡ Some x)
placed [] n below = absurd (omega arith)
placed (x ∷ xs) zero below = (x, refl)
placed (x ∷ xs) (suc n) below = placed xs n (omega arith)

pub contains_at : {A : Type 0} (xs : List A) (k : ℕ) (x : A) → slice_get xs k ≡ Some x → Contains xs x
contains_at xs k x at = (k, slice_get_within xs k x at, get_or_from_slice_get xs k x x at)

-- what a list has stands at a place
pub place_in : {A : Type 0} (xs : List A) (x : A) → Contains xs x → (k : ℕ) × (slice_get xs k ≡ Some x)
place_in xs x there = (there.0, slice_get-get_or xs there.0 x there.1 ∙ ap Some there.2)

-- what holds of each value of a list holds of the one at a place
pub all_at : {A : Type 0} (P : A → Type 0) (xs : List A) (n : ℕ) (x : A) → slice_get xs n ≡ Some x → All P xs → P x
all_at P xs n x at each = subst P (get_or_from_slice_get xs n x x at) (each n x (slice_get_within xs n x at))

-- ---- parts

pub get-take : {A : Type 0} (xs : List A) (n k : ℕ) → k < n → slice_get (take n xs) k ≡ slice_get xs k
get-take xs zero k below = absurd (omega arith)
get-take [] (suc n) k below = refl
get-take (x ∷ xs) (suc n) zero below = refl
get-take (x ∷ xs) (suc n) (suc k) below = get-take xs n k (omega arith)

-- what stands in a front stands before its end
pub from_take : {A : Type 0} (xs : List A) (n k : ℕ) (x : A) → slice_get (take n xs) k ≡ Some x → (k < n) × (slice_get xs k ≡ Some x)
from_take xs zero k x at = absurd cc
from_take [] (suc n) k x at = absurd cc
from_take (y ∷ ys) (suc n) zero x at = (omega arith, at)
from_take (y ∷ ys) (suc n) (suc k) x at = let rest = from_take ys n k x at in (omega (arith, rest.0), rest.1)

pub get-drop : {A : Type 0} (xs : List A) (n k : ℕ) → slice_get (drop n xs) k ≡ slice_get xs (n + k)
get-drop xs zero k = ap (slice_get xs) (let e : k ≡ 0 + k = omega arith in e)
get-drop [] (suc n) k = refl
get-drop (x ∷ xs) (suc n) k = get-drop xs n k ∙ ap (slice_get (x ∷ xs)) (let e : suc (n + k) ≡ suc n + k = omega arith in e)

-- ---- tests

pub any_at : {A : Type 0} (test : A → Bool) (xs : List A) (k : ℕ) (x : A) → slice_get xs k ≡ Some x → test x ≡ true → list_any test xs ≡ true
any_at test xs k x at passes = list_any_at test xs k x (slice_get_within xs k x at) (ap test (get_or_from_slice_get xs k x x at) ∙ passes)

-- one of the values passes, at its place
pub at_place : {A : Type 0} (test : A → Bool) (xs : List A) → list_any test xs ≡ true → (k : ℕ) × (x : A) × (slice_get xs k ≡ Some x) × (test x ≡ true)
at_place test xs some =
    let there = Any-from_list_any test xs some in
    (there.0, there.1, slice_get-get_or xs there.0 there.1 there.2 ∙ ap Some there.3, there.4)

-- the only one that passes is found
pub find_only : {A : Type 0} (test : A → Bool) (xs : List A) (k : ℕ) (x : A) → slice_get xs k ≡ Some x → test x ≡ true →
    ((j : ℕ) (y : A) → slice_get xs j ≡ Some y → test y ≡ true → j ≡ k) → find test xs ≡ Some x
find_only test [] k x at passes only = absurd cc
find_only {A} test (y ∷ ys) zero x at passes only =
    let same : y ≡ x = cc in
    ap (λ (b : Bool). cond b (Some y) (find test ys)) (ap test same ∙ passes) ∙ at
find_only {A} test (y ∷ ys) (suc k) x at passes only =
    ap (λ (b : Bool). cond b (Some y) (find test ys)) (false_from_ne_true (test y) (λ yes. let first = only 0 y refl yes in omega (arith, first)))
    ∙ find_only test ys k x at passes (λ j z z_at z_passes. let same = only (suc j) z z_at z_passes in omega (arith, same))

pub of_option : {A : Type 0} (test : A → Bool) (o : Option A) → option_map_or test o false ≡ true → (x : A) × (o ≡ Some x) × (test x ≡ true)
of_option test None holds = absurd cc
of_option test (Some x) holds = (x, refl, holds)

-- one of the values is found
pub found_at : {A : Type 0} (p : A → Bool) (xs : List A) (k : ℕ) (x : A) → slice_get xs k ≡ Some x → p x ≡ true → is_some (find p xs) ≡ true
found_at p [] k x at passes = absurd cc
found_at p (y ∷ ys) zero x at passes = let same : y ≡ x = cc in rw (same, passes) refl
found_at {A} p (y ∷ ys) (suc k) x at passes = by_test (p y) (found_at p ys k x at passes)
  where
    by_test : (b : Bool) → is_some (find p ys) ≡ true → is_some (cond b (Some y) (find p ys)) ≡ true
    by_test true rest = refl
    by_test false rest = rest

pub place_of_found : {A : Type 0} (p : A → Bool) (xs : List A) → is_some (find p xs) ≡ true → (k : ℕ) × (x : A) × (slice_get xs k ≡ Some x) × (p x ≡ true)
place_of_found p [] some = absurd cc
place_of_found {A} p (y ∷ ys) some = by_test (p y) refl some (place_of_found p ys)
  where
    by_test : (b : Bool) → p y ≡ b → is_some (cond b (Some y) (find p ys)) ≡ true →
        (is_some (find p ys) ≡ true → (k : ℕ) × (x : A) × (slice_get ys k ≡ Some x) × (p x ≡ true)) →
        (k : ℕ) × (x : A) × (slice_get (y ∷ ys) k ≡ Some x) × (p x ≡ true)
    by_test true is some rest = (0, y, refl, is)
    by_test false is some rest = let there = rest some in (suc there.0, there.1, there.2, there.3)
