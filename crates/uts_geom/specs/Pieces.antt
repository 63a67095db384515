-- Lists of pieces of one length, by place.
use Rattle.std.proofs.Common.{◌≡◌, ◌∙◌, ◌<◌, ◌+◌, ◌*◌, ◌/◌, ◌%◌, ℕ, zero, suc, List, [], ◌∷◌, ◌++◌, length, ap, arith, length-append, Some}
use Rattle.std.specs.Prelude.{slice_get, All}
use Rattle.std.specs.List.{flat_map}
use Rattle.std.proofs.Math.Nat.{mul-suc}
use native.Mathlib.Nat.{div-lt_iff_lt-mul, mul_comm}
use Rattle.std.proofs.lemmas.List.Elements.{All-append, All-nil}
use Rattle.uts_geom.specs.Counting.{get_left, get_right}

-- pieces of one length, joined
module _ {X A : Type 0} (f : X → List A) (w : ℕ) (even : (x : X) → length (f x) ≡ w) where
  pub length-pieces : (xs : List X) → length (flat_map f xs) ≡ w * length xs
  length-pieces [] = omega arith
  length-pieces (x ∷ xs) = length-append (f x) (flat_map f xs) ∙ omega (arith, length-pieces xs, even x, mul-suc w (length xs))

  pub get-pieces : (xs : List X) (i k : ℕ) (x : X) → slice_get xs i ≡ Some x → k < w → slice_get (flat_map f xs) (k + w * i) ≡ slice_get (f x) k
  get-pieces [] i k x at within = absurd cc
  get-pieces (y ∷ ys) zero k x at within =
      let same : y ≡ x = cc in
      let place : k + w * 0 ≡ k = omega arith in
      let first : k < length (f y) = omega (arith, even y) in
      ap (slice_get (f y ++ flat_map f ys)) place ∙ get_left (f y) (flat_map f ys) k first ∙ ap (λ (v : X). slice_get (f v) k) same
  get-pieces (y ∷ ys) (suc i) k x at within =
      get_right (f y) (flat_map f ys) (k + w * suc i) (k + w * i) (omega (arith, even y, mul-suc w i))
      ∙ get-pieces ys i k x at within

-- what holds of each part of each piece
pub All-pieces : {X A : Type 0} (P : A → Type 0) (f : X → List A) (xs : List X) → All (λ x. All P (f x)) xs → All P (flat_map f xs)
All-pieces P f [] each = All-nil P
All-pieces P f (x ∷ xs) each =
    All-append P (f x) (flat_map f xs) (each 0 x (omega arith)) (All-pieces P f xs (λ k d below. each (suc k) d (omega arith)))

-- a number below a product, by pieces of one length
pub row_below : (n w m : ℕ) → n < w * m → 0 < w
row_below n zero m below = absurd (omega arith)
row_below n (suc w) m below = omega arith

pub split_below : (n w m : ℕ) → n < w * m → (n % w < w) × (n / w < m) × (n ≡ n % w + w * (n / w))
split_below n w m below =
    let some : 0 < w = row_below n w m below in
    let turned : n < m * w = rw (mul_comm m w) below in
    (omega arith, (div-lt_iff_lt-mul some).1 turned, omega arith)
