-- Whether some value of a list passes a test, where the list is joined from others.
use Rattle.std.proofs.Common.{◌≡◌, ◌∙◌, ◌≤◌, ◌<◌, ◌+◌, ◌⊎◌, inl, inr, ℕ, zero, suc, List, [], ◌∷◌, Bool, true, false, Option, length, take, get_or, ap, sym, refl, arith, add-one, zero-add}
use Rattle.std.specs.Prelude.{slice_get, map, ◌&&◌, ◌||◌, nat_lt}
use Rattle.std.specs.List.{flat_map, list_any}
use Rattle.std.specs.Option.{option_map_or}
use Rattle.std.proofs.Math.Nat.{eq-or-lt_of_le}
use Rattle.std.proofs.lemmas.Bool.{lt-ltb}
use Rattle.std.proofs.lemmas.Option.{slice_get-get_or}
use Rattle.std.proofs.lemmas.List.{take_all}
use Rattle.std.proofs.lemmas.List.Folds.{list_any-append, list_any_more}
use Rattle.uts_geom.specs.Spans.{counted}
use Rattle.uts_geom.specs.Lists.{placed}

and_false : (b : Bool) → (b && false) ≡ false
and_false true = refl
and_false false = refl

or_false : (b : Bool) → (b || false) ≡ b
or_false true = refl
or_false false = refl

pub or_true : (b : Bool) → (b || true) ≡ true
or_true true = refl
or_true false = refl

module _ {X : Type 0} where
  pub any-alike : (p q : X → Bool) → ((x : X) → p x ≡ q x) → (xs : List X) → list_any p xs ≡ list_any q xs
  any-alike p q same [] = refl
  any-alike p q same (x ∷ xs) = ap (λ (b : Bool). b || list_any p xs) (same x) ∙ ap (λ (b : Bool). q x || b) (any-alike p q same xs)

  any-nothing : (xs : List X) → list_any (λ x. false) xs ≡ false
  any-nothing [] = refl
  any-nothing (x ∷ xs) = any-nothing xs

  -- a test that does not look at the value
  pub any-constant : (b : Bool) (xs : List X) → list_any (λ x. b) xs ≡ (nat_lt 0 (length xs) && b)
  any-constant b [] = refl
  any-constant true (x ∷ xs) = sym (ap (λ (b : Bool). b && true) (lt-ltb 0 (length (x ∷ xs)) (omega arith)))
  any-constant false (x ∷ xs) = any-nothing xs ∙ sym (and_false (nat_lt 0 (length (x ∷ xs))))

module _ {X Y : Type 0} where
  pub any-flat_map : (p : Y → Bool) (f : X → List Y) (xs : List X) → list_any p (flat_map f xs) ≡ list_any (λ x. list_any p (f x)) xs
  any-flat_map p f [] = refl
  any-flat_map p f (x ∷ xs) = list_any-append p (f x) (flat_map f xs) ∙ ap (λ (b : Bool). list_any p (f x) || b) (any-flat_map p f xs)

  pub any-map : (p : Y → Bool) (f : X → Y) (xs : List X) → list_any p (map f xs) ≡ list_any (λ x. p (f x)) xs
  any-map p f [] = refl
  any-map p f (x ∷ xs) = ap (λ (b : Bool). p (f x) || b) (any-map p f xs)

-- among the numbers from 0 up, one more
pub any-counted_more : (p : ℕ → Bool) (n : ℕ) → list_any p (counted 0 (n + 1)) ≡ (list_any p (counted 0 n) || p n)
any-counted_more p n =
    ap (λ (m : ℕ). list_any p (counted 0 m)) (add-one n)
    ∙ list_any-append p (counted 0 n) ((0 + n) ∷ [])
    ∙ ap (λ (b : Bool). list_any p (counted 0 n) || b) (or_false (p (0 + n)) ∙ ap p (zero-add n))

-- one of the numbers from 0 up passes
pub any-counted_at : (p : ℕ → Bool) (n k : ℕ) → k < n → p k ≡ true → list_any p (counted 0 n) ≡ true
any-counted_at p zero k below passes = absurd (omega arith)
any-counted_at p (suc n) k below passes =
    ap (λ (m : ℕ). list_any p (counted 0 m)) (sym (add-one n))
    ∙ any-counted_more p n
    ∙ by_order (eq-or-lt_of_le (let le : k ≤ n = omega arith in le)) (λ less. any-counted_at p n k less passes)
  where
    by_order : (k ≡ n) ⊎ (k < n) → (k < n → list_any p (counted 0 n) ≡ true) → (list_any p (counted 0 n) || p n) ≡ true
    by_order (inl same) before = ap (λ (b : Bool). list_any p (counted 0 n) || b) (ap p (sym same) ∙ passes) ∙ or_true (list_any p (counted 0 n))
    by_order (inr less) before = ap (λ (b : Bool). b || p n) (before less)

-- among the places of a list
module _ {X : Type 0} (p : X → Bool) (xs : List X) where
  up_to_place : (n : ℕ) → n ≤ length xs → list_any (λ k. option_map_or p (slice_get xs k) false) (counted 0 n) ≡ list_any p (take n xs)
  up_to_place zero within = refl
  up_to_place (suc n) within =
      let (x, at) = placed xs n (omega arith) in
      let below : n < length xs = omega arith in
      let read : option_map_or p (slice_get xs n) false ≡ p (get_or xs n x) = ap (λ (o : Option X). option_map_or p o false) (slice_get-get_or xs n x below) in
      ap (λ (m : ℕ). list_any (λ k. option_map_or p (slice_get xs k) false) (counted 0 m)) (sym (add-one n))
      ∙ any-counted_more (λ k. option_map_or p (slice_get xs k) false) n
      ∙ ap (λ (b : Bool). b || option_map_or p (slice_get xs n) false) (up_to_place n (omega arith))
      ∙ ap (λ (b : Bool). list_any p (take n xs) || b) read
      ∙ sym (list_any_more p xs n x below)
      ∙ ap (λ (m : ℕ). list_any p (take m xs)) (add-one n)

  pub any-places : list_any (λ k. option_map_or p (slice_get xs k) false) (counted 0 (length xs)) ≡ list_any p xs
  any-places = up_to_place (length xs) (omega arith) ∙ ap (λ (ys : List X). list_any p ys) (take_all (length xs) xs (omega arith))
