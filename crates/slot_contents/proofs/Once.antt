-- Lists in which each item stands once: joined lists, and that two with the same members are permutations of each other.
use Rattle.std.proofs.Common.{◌≡◌, ◌≢◌, ◌<◌, ◌+◌, ◌⊎◌, ℕ, zero, suc, List, [], ◌∷◌, ◌++◌, length, inl, inr, sym, refl, arith, subst}
use Rattle.std.specs.Prelude.{AllPairs, Contains, IsPermutation}
use Rattle.std.specs.List.{flat_map}
use Rattle.std.proofs.lemmas.List.Elements.{Contains-append_cases, Contains-append_right}
use Rattle.std.proofs.lemmas.List.Sorted.{Contains-permutation, IsPermutation-cons, IsPermutation-middle, IsPermutation-refl, IsPermutation-sym, IsPermutation-trans}
use Rattle.uts_geom.specs.Spans.{counted}
use Rattle.uts_geom.specs.Counting.{at-counted}
use Rattle.uts_geom.specs.Lists.{contains_at, place_in}

-- ---- members

pub of_single : {A : Type 0} (x y : A) → Contains (x ∷ []) y → x ≡ y
of_single x y (zero, below, is) = is
of_single x y (suc k, below, is) = absurd (let less : suc k < 1 = below in omega (arith, less))

pub at_head : {A : Type 0} (x : A) (xs : List A) → Contains (x ∷ xs) x
at_head x xs = contains_at (x ∷ xs) 0 x refl

pub in_tail : {A : Type 0} (x : A) (xs : List A) (y : A) → Contains xs y → Contains (x ∷ xs) y
in_tail x xs y there = Contains-append_right (x ∷ []) xs y there

-- the first item, or one of the others
pub head_or_tail : {A : Type 0} (x : A) (xs : List A) (y : A) → Contains (x ∷ xs) y → (x ≡ y) ⊎ Contains xs y
head_or_tail x xs y there = elim (Contains-append_cases (x ∷ []) xs y there) [
  | inl first ↦ inl (of_single x y first)
  | inr later ↦ inr later
]

pub in_none : {A : Type 0} (x : A) → Contains [] x → ⊥
in_none x (k, below, is) = let less : k < 0 = below in omega (arith, less)

-- what stands in joined lists stands in that of an item
pub of_flat_map : {X A : Type 0} (g : X → List A) (xs : List X) (a : A) → Contains (flat_map g xs) a → (x : X) × Contains xs x × Contains (g x) a
of_flat_map g [] a there = absurd (in_none a there)
of_flat_map g (x ∷ xs) a there = elim (Contains-append_cases (g x) (flat_map g xs) a there) [
  | inl first ↦ (x, at_head x xs, first)
  | inr later ↦ let rest = of_flat_map g xs a later in (rest.0, in_tail x xs rest.0 rest.1, rest.2)
]

pub of_counted : (n k : ℕ) → Contains (counted 0 n) k → k < n
of_counted n k there =
    let at = place_in (counted 0 n) k there in
    let stands = at-counted n at.0 k at.1 in
    let same : k ≡ at.0 = stands.0 in
    let below : at.0 < n = stands.1 in
    omega (arith, same, below)

-- ---- items that stand once

unfoldable pub IsOnce : {A : Type 0} → List A → Type 0
IsOnce [] = Unit {0}
IsOnce (x ∷ xs) = (Contains xs x → ⊥) × IsOnce xs

pub IsOnce-from_pairs : {A : Type 0} (xs : List A) → AllPairs ◌≢◌ xs → IsOnce xs
unfolding IsOnce
IsOnce-from_pairs [] apart = tt
IsOnce-from_pairs (x ∷ xs) apart = (
  (λ there. apart 0 (suc there.0) x (omega arith) (let below : there.0 < length xs = there.1 in omega (arith, below)) (sym there.2)),
  IsOnce-from_pairs xs (λ i j d less below. apart (suc i) (suc j) d (omega (arith, less)) (omega (arith, below))),
)

-- two lists of which no item stands in both
pub IsOnce-append : {A : Type 0} (xs ys : List A) → IsOnce xs → IsOnce ys → ((x : A) → Contains xs x → Contains ys x → ⊥) → IsOnce (xs ++ ys)
unfolding IsOnce
IsOnce-append [] ys first second apart = second
IsOnce-append (x ∷ xs) ys first second apart = (
  (λ there. elim (Contains-append_cases xs ys x there) [ inl left ↦ first.0 left | inr right ↦ apart x (at_head x xs) right ]),
  IsOnce-append xs ys first.1 second (λ y left right. apart y (in_tail x xs y left) right),
)

pub IsOnce-counted : (n : ℕ) → IsOnce (counted 0 n)
unfolding IsOnce
IsOnce-counted zero = tt
IsOnce-counted (suc n) = IsOnce-append (counted 0 n) ((0 + n) ∷ []) (IsOnce-counted n) (in_none (0 + n), tt) (λ k left right.
    let below = of_counted n k left in
    let same = of_single (0 + n) k right in
    omega (arith, below, same))

-- lists of items, of which no two have an item in common
pub IsOnce-flat_map : {X A : Type 0} (g : X → List A) (xs : List X) → IsOnce xs → ((x : X) → IsOnce (g x)) →
    ((x y : X) (a : A) → Contains xs x → Contains xs y → Contains (g x) a → Contains (g y) a → x ≡ y) → IsOnce (flat_map g xs)
unfolding IsOnce
IsOnce-flat_map g [] once each apart = tt
IsOnce-flat_map {X} g (x ∷ xs) once each apart =
    IsOnce-append (g x) (flat_map g xs) (each x) (IsOnce-flat_map g xs once.1 each (λ y z a in_y in_z. apart y z a (in_tail x xs y in_y) (in_tail x xs z in_z)))
    (λ a here later.
    let other = of_flat_map g xs a later in
    let same : other.0 ≡ x = apart other.0 x a (in_tail x xs other.0 other.1) (at_head x xs) other.2 here in
    once.0 (subst (λ (y : X). Contains xs y) same other.1))

-- ---- permutations

-- what is left of a list without an item
record Without {A : Type 0} (x : A) (ys : List A) : Type 0 where
  pub rest : List A
  pub moved : IsPermutation ys (x ∷ rest)
  pub gone : Contains rest x → ⊥
  pub once : IsOnce rest

without : {A : Type 0} (x : A) (ys : List A) → IsOnce ys → Contains ys x → Without x ys
unfolding IsOnce
without x [] once there = absurd (in_none x there)
without {A} x (y ∷ ys) once there = elim (head_or_tail y ys x there) [
  | inl same ↦ subst (λ (z : A). Without z (y ∷ ys)) same (record { rest = ys; moved = IsPermutation-refl (y ∷ ys); gone = once.0; once = once.1 })
  | inr later ↦
      let w = without x ys once.1 later in
      record {
        rest = y ∷ w.rest;
        moved = IsPermutation-trans (y ∷ ys) (y ∷ x ∷ w.rest) (x ∷ y ∷ w.rest) (IsPermutation-cons y ys (x ∷ w.rest) w.moved) (IsPermutation-middle (y ∷ []) x w.rest);
        gone = λ left. elim (head_or_tail y w.rest x left) [ inl same ↦ once.0 (subst (λ (z : A). Contains ys z) (sym same) later) | inr within ↦ w.gone within ];
        once = ((λ within. once.0 (Contains-permutation (x ∷ w.rest) ys y (IsPermutation-sym ys (x ∷ w.rest) w.moved) (in_tail x w.rest y within))), w.once);
      }
]

-- Lists whose items stand once, and that have the same members, are permutations of each other.
pub same_members : {A : Type 0} (xs ys : List A) → IsOnce xs → IsOnce ys → ((x : A) → Contains xs x → Contains ys x) → ((x : A) → Contains ys x → Contains xs x) → IsPermutation xs ys
unfolding IsOnce
same_members [] [] once_xs once_ys to from = IsPermutation-refl []
same_members [] (y ∷ ys) once_xs once_ys to from = absurd (in_none y (from y (at_head y ys)))
same_members {A} (x ∷ xs) ys once_xs once_ys to from =
    let w = without x ys once_ys (to x (at_head x xs)) in
    let moved = same_members xs w.rest once_xs.1 w.once
    (λ y there. elim (head_or_tail x w.rest y (Contains-permutation ys (x ∷ w.rest) y w.moved (to y (in_tail x xs y there)))) [
      | inl same ↦ absurd (once_xs.0 (subst (λ (z : A). Contains xs z) (sym same) there))
      | inr later ↦ later
    ])
    (λ y there. elim (head_or_tail x xs y (from y (Contains-permutation (x ∷ w.rest) ys y (IsPermutation-sym ys (x ∷ w.rest) w.moved) (in_tail x w.rest y there)))) [
      | inl same ↦ absurd (w.gone (subst (λ (z : A). Contains w.rest z) (sym same) there))
      | inr later ↦ later
    ]) in
    IsPermutation-trans (x ∷ xs) (x ∷ w.rest) ys (IsPermutation-cons x xs w.rest moved) (IsPermutation-sym ys (x ∷ w.rest) w.moved)
