-- How a list of lines ascends, part after part.
use Rattle.std.proofs.Common.{◌≡◌, ℕ, zero, suc, ◌<◌, Bool, true, false, refl, ap, arith, rules, List, [], ◌∷◌, ◌++◌, ltb-true, ltb-false, Option, Some, None, IsSome, if◌then◌else◌, nat_lt}
use Rattle.std.proofs.lemmas.Option.{none-some}
use Rattle.std.specs.List.Sorted.{IsStrictlyIncreasing}
use native.Mathlib.Numerals.{unary_clauses}

-- the last of some lines that ascend strictly after a line, none where they do not
abbrev pub last_ascending : ℕ → List ℕ → Option ℕ
last_ascending last [] = Some last
last_ascending last (line ∷ lines) = if nat_lt last line then last_ascending line lines else None

-- what follows a part that ascends
followed_by : (t : Bool) (p q r : Option ℕ) (b : ℕ) → (p ≡ Some b → q ≡ r) →
    (if t then p else None) ≡ Some b → (if t then q else None) ≡ r
followed_by true p q r b h e = h e
followed_by false p q r b h e = absurd (none-some b e)

pub followed : (a : ℕ) (xs ys : List ℕ) (b : ℕ) → last_ascending a xs ≡ Some b →
    last_ascending a (xs ++ ys) ≡ last_ascending b ys
followed a [] ys b e = let same : a ≡ b = cc in ap (λ c. last_ascending c ys) same
followed a (x ∷ xs) ys b e = followed_by (nat_lt a x) _ _ _ b (followed x xs ys b) e

-- numbers increase where the first is below the next, and the rest increase
pub increasing_from : (a x : ℕ) (xs : List ℕ) → a < x → IsStrictlyIncreasing (x ∷ xs) → IsStrictlyIncreasing (a ∷ x ∷ xs)
increasing_from a x xs first rest zero within = first
increasing_from a x xs first rest (suc k) within =
    simp unary_clauses (simp unary_clauses at (rest k (omega (arith, within))))

pub rest_increases : (a x : ℕ) (xs : List ℕ) → IsStrictlyIncreasing (a ∷ x ∷ xs) → IsStrictlyIncreasing (x ∷ xs)
rest_increases a x xs h k within = simp unary_clauses (simp unary_clauses at (h (suc k) (omega (arith, within))))

increasing_by : (a x : ℕ) (xs : List ℕ) (t : Bool) (p : Option ℕ) → nat_lt a x ≡ t →
    (IsSome p → IsStrictlyIncreasing (x ∷ xs)) → IsSome (if t then p else None) → IsStrictlyIncreasing (a ∷ x ∷ xs)
increasing_by a x xs true p is h some = increasing_from a x xs (ltb-true a x is) (h some)
increasing_by a x xs false p is h some = absurd (cc)

pub increasing_where_some : (a : ℕ) (xs : List ℕ) → IsSome (last_ascending a xs) → IsStrictlyIncreasing (a ∷ xs)
increasing_where_some a [] some = λ k within. absurd (omega (arith, within))
increasing_where_some a (x ∷ xs) some = increasing_by a x xs (nat_lt a x) _ refl (increasing_where_some x xs) some

some_by : (a x : ℕ) (t : Bool) (p : Option ℕ) → nat_lt a x ≡ t → a < x → IsSome p → IsSome (if t then p else None)
some_by a x true p is first some = some
some_by a x false p is first some = absurd (omega (arith, ltb-false a x is))

pub some_where_increasing : (a : ℕ) (xs : List ℕ) → IsStrictlyIncreasing (a ∷ xs) → IsSome (last_ascending a xs)
some_where_increasing a [] h = search rules
some_where_increasing a (x ∷ xs) h = some_by a x (nat_lt a x) _ refl (h 0 (omega arith))
    (some_where_increasing x xs (rest_increases a x xs h))
