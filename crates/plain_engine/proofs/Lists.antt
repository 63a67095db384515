-- Lists for each item of a list, joined.
use Rattle.std.proofs.Common.{◌≡◌, ◌∙◌, ℕ, zero, suc, ◌+◌, ◌<◌, List, [], ◌∷◌, ◌++◌, map, length, All, Bool, true, Contains, ap, sym, refl, arith, take, get_or}
use Rattle.std.specs.List.{flat_map, list_any}
use Rattle.std.proofs.lemmas.Bool.{or_left, or_right}
use Rattle.std.proofs.lemmas.List.{take_more}
use Rattle.std.proofs.lemmas.List.Elements.{All-head, All-tail, All-nil, All-append, All-push, All-weaker}
use Rattle.uts_geom.specs.Spans.{counted}
use Rattle.kernel_sweeps.specs.Lists.{flat_map-more}

-- two functions that agree where a fact holds, which it does of each item
module _ {X A : Type 0} (P : X → Type 0) where
  pub map-alike : (f g : X → A) → ((x : X) → P x → f x ≡ g x) → (xs : List X) → All P xs → map f xs ≡ map g xs
  map-alike f g same [] each = refl
  map-alike f g same (x ∷ xs) each =
      ap (λ y. y ∷ map f xs) (same x (All-head P x xs each)) ∙ ap (λ ys. g x ∷ ys) (map-alike f g same xs (All-tail P x xs each))

  pub flat_map-alike : (f g : X → List A) → ((x : X) → P x → f x ≡ g x) → (xs : List X) → All P xs → flat_map f xs ≡ flat_map g xs
  flat_map-alike f g same [] each = refl
  flat_map-alike f g same (x ∷ xs) each =
      ap (λ first. first ++ flat_map f xs) (same x (All-head P x xs each))
      ∙ ap (λ rest. g x ++ rest) (flat_map-alike f g same xs (All-tail P x xs each))

-- one item more of a list, by its place
pub flat_map-take : {X A : Type 0} (f : X → List A) (before next : List A) (xs : List X) (i : ℕ) (x : X) → i < length xs → x ≡ get_or xs i x →
    before ≡ flat_map f (take i xs) → next ≡ before ++ f x → next ≡ flat_map f (take (i + 1) xs)
flat_map-take f before next xs i x below at is then =
    then ∙ ap (λ front. front ++ f x) is ∙ sym (flat_map-more f (take i xs) x)
    ∙ ap (flat_map f) (ap (λ y. take i xs ++ y ∷ []) at ∙ sym (take_more xs i x below))

-- what holds of each part of each list
pub All-flat_map : {X A : Type 0} (P : A → Type 0) (f : X → List A) (xs : List X) → All (λ x. All P (f x)) xs → All P (flat_map f xs)
All-flat_map P f [] each = All-nil P
All-flat_map P f (x ∷ xs) each =
    All-append P (f x) (flat_map f xs) (All-head (λ x. All P (f x)) x xs each) (All-flat_map P f xs (All-tail (λ x. All P (f x)) x xs each))

-- counted numbers are below their end
pub All-counted : (n : ℕ) → All (λ k. k < n) (counted 0 n)
All-counted zero = All-nil (λ k. k < 0)
All-counted (suc n) =
    All-push (λ k. k < suc n) (counted 0 n) (0 + n) (All-weaker (λ k. k < n) (λ k. k < suc n) (λ k below. omega arith) (counted 0 n) (All-counted n)) (omega arith)

-- a test that an item of the list passes
pub list_any-here : {X : Type 0} (test : X → Bool) (xs : List X) (x : X) → Contains xs x → test x ≡ true → list_any test xs ≡ true
list_any-here test [] x (k, below, at) passes = absurd (omega arith)
list_any-here test (y ∷ ys) x (zero, below, at) passes = or_left (test y) (list_any test ys) (rw at passes)
list_any-here test (y ∷ ys) x (suc k, below, at) passes =
    or_right (test y) (list_any test ys) (list_any-here test ys x (k, let less : k < length ys = omega arith in less, at) passes)
