-- A list of which the items so far were written over by what stands in a relation to them.
use Rattle.std.proofs.Common.{◌≡◌, ◌∙◌, ◌⊎◌, inl, inr, ℕ, zero, suc, ◌+◌, ◌<◌, ◌≤◌, List, [], ◌∷◌, ◌++◌, length, take, drop, set, Some, refl, sym, ap, subst, arith}
use Rattle.std.specs.Prelude.{slice_get}
use Rattle.std.proofs.Math.ListN.{length-set}
use Rattle.std.proofs.lemmas.Bool.{cases_eq}
use Rattle.std.proofs.lemmas.List.{drop_all, take_all, append-nil}

set_here : {A : Type 0} (xs : List A) (i : ℕ) (y : A) → i < length xs → slice_get (set xs i y) i ≡ Some y
set_here [] i y below = absurd (omega arith)
set_here (x ∷ xs) zero y below = refl
set_here (x ∷ xs) (suc i) y below = set_here xs i y (omega arith)

set_elsewhere : {A : Type 0} (xs : List A) (i k : ℕ) (y : A) → (k ≡ i → ⊥) → slice_get (set xs i y) k ≡ slice_get xs k
set_elsewhere [] i k y other = refl
set_elsewhere (x ∷ xs) zero zero y other = absurd (other refl)
set_elsewhere (x ∷ xs) zero (suc k) y other = refl
set_elsewhere (x ∷ xs) (suc i) zero y other = refl
set_elsewhere (x ∷ xs) (suc i) (suc k) y other = set_elsewhere xs i k y (λ same. other (ap (λ (n : ℕ). suc n) same))

-- The items below a place stand in the relation to those that were there, and the others are as they were.
pub record AreWalked {A : Type 0} (R : A → A → Type 0) (before now : List A) (i : ℕ) : Type 0 where
  pub many : length now ≡ length before
  pub done : (k : ℕ) (a b : A) → k < i → slice_get before k ≡ Some a → slice_get now k ≡ Some b → R a b
  pub rest : (k : ℕ) → i ≤ k → slice_get now k ≡ slice_get before k

module _ {A : Type 0} (R : A → A → Type 0) (before : List A) where
  pub walked_none : AreWalked R before before 0
  walked_none = record { many = refl; done = λ k a b below at there. absurd (omega (arith, below)); rest = λ k behind. refl }

  pub walked_more : (now : List A) (i : ℕ) (x y : A) → AreWalked R before now i → i < length now → slice_get now i ≡ Some x → R x y → AreWalked R before (set now i y) (i + 1)
  walked_more now i x y walked within at holds = record {
    many = length-set now i y ∙ walked.many;
    done = λ k a b below at_k there. by_place k a b below at_k there (cases_eq k i);
    rest = λ k behind. set_elsewhere now i k y (λ same. absurd (omega (arith, same, behind))) ∙ walked.rest k (omega (arith, behind));
  }
    where
      by_place : (k : ℕ) (a b : A) → k < i + 1 → slice_get before k ≡ Some a → slice_get (set now i y) k ≡ Some b → (k ≡ i) ⊎ (k ≡ i → ⊥) → R a b
      by_place k a b below at_k there (inl same) =
          let was : slice_get before i ≡ Some x = sym (walked.rest i (omega arith)) ∙ at in
          let is : slice_get (set now i y) i ≡ Some b = ap (slice_get (set now i y)) (sym same) ∙ there in
          let here : slice_get (set now i y) i ≡ Some y = set_here now i y within in
          let at_i : slice_get before i ≡ Some a = ap (slice_get before) (sym same) ∙ at_k in
          let first : x ≡ a = cc in
          let second : y ≡ b = cc in
          subst (λ (u : A). R u b) first (subst (λ (v : A). R x v) second holds)
      by_place k a b below at_k there (inr other) =
          walked.done k a b (omega (arith, below, other)) at_k (sym (set_elsewhere now i k y other) ∙ there)

-- all of a vector, as it is put back
pub put_back : {A : Type 0} (xs ys : List A) (n : ℕ) → length xs ≡ n → length ys ≡ n → take n (xs ++ drop (length xs) ys) ≡ xs
put_back {A} xs ys n size same =
    ap (λ (end : List A). take n (xs ++ end)) (drop_all (length xs) ys (omega (arith, size, same))) ∙ ap (take n) (append-nil xs)
    ∙ take_all n xs (omega (arith, size))
