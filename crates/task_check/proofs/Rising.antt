-- Lists of lines that rise, and their parts.
use Rattle.std.proofs.Common.{◌≡◌, ◌⊎◌, ℕ, suc, ◌<◌, refl, sym, ap, arith, subst, List, [], ◌∷◌, ◌++◌, map, inl, inr}
use native.Mathlib.Numerals.{unary_clauses}
use Rattle.std.specs.List.{flat_map}
use Rattle.std.specs.List.Sorted.{IsStrictlyIncreasing}

-- the number is one of the list
abbrev pub Among : ℕ → List ℕ → Type 0
Among a [] = ⊥
Among a (x ∷ xs) = (a ≡ x) ⊎ Among a xs

-- each number is below each that comes after it
abbrev pub Rises : List ℕ → Type 0
Rises [] = Unit {0}
Rises (x ∷ xs) = ((b : ℕ) → Among b xs → x < b) × Rises xs

pub among_left : (xs ys : List ℕ) (a : ℕ) → Among a xs → Among a (xs ++ ys)
among_left [] ys a m = absurd m
among_left (x ∷ xs) ys a (inl e) = inl e
among_left (x ∷ xs) ys a (inr m) = inr (among_left xs ys a m)

pub among_right : (xs ys : List ℕ) (a : ℕ) → Among a ys → Among a (xs ++ ys)
among_right [] ys a m = m
among_right (x ∷ xs) ys a m = inr (among_right xs ys a m)

pub rises_left : (xs ys : List ℕ) → Rises (xs ++ ys) → Rises xs
rises_left [] ys r = tt
rises_left (x ∷ xs) ys r = (λ b m. r.0 b (among_left xs ys b m), rises_left xs ys r.1)

pub rises_right : (xs ys : List ℕ) → Rises (xs ++ ys) → Rises ys
rises_right [] ys r = r
rises_right (x ∷ xs) ys r = rises_right xs ys r.1

-- what stands in the first part is below what stands in the second
pub below : (xs ys : List ℕ) → Rises (xs ++ ys) → (a b : ℕ) → Among a xs → Among b ys → a < b
below [] ys r a b m n = absurd m
below (x ∷ xs) ys r a b (inl e) m = subst (λ c. c < b) (sym e) (r.0 b (among_right xs ys b m))
below (x ∷ xs) ys r a b (inr m) n = below xs ys r.1 a b m n

increases_on : (x y : ℕ) (xs : List ℕ) → IsStrictlyIncreasing (x ∷ y ∷ xs) → IsStrictlyIncreasing (y ∷ xs)
increases_on x y xs r k within = simp unary_clauses (simp unary_clauses at (r (suc k) (omega (arith, within))))

least_first : (x y : ℕ) (xs : List ℕ) → x < y → Rises (y ∷ xs) → (b : ℕ) → Among b (y ∷ xs) → x < b
least_first x y xs less r b (inl e) = subst (λ c. x < c) (sym e) less
least_first x y xs less r b (inr m) = omega (arith, less, r.0 b m)

pub rising : (xs : List ℕ) → IsStrictlyIncreasing xs → Rises xs
rising [] r = tt
rising (x ∷ []) r = (λ b m. absurd m, tt)
rising (x ∷ y ∷ xs) r =
    let rest : Rises (y ∷ xs) = rising (y ∷ xs) (increases_on x y xs r) in
    (least_first x y xs (r 0 (omega arith)) rest, rest)

-- one line of each item
pub one_each : {A : Type 0} (line : A → ℕ) (xs : List A) → flat_map (λ x. line x ∷ []) xs ≡ map line xs
one_each line [] = refl
one_each line (x ∷ xs) = ap (λ ys. line x ∷ ys) (one_each line xs)
