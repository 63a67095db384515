-- Lists in which each value is related to each later one.
use Rattle.std.proofs.Common.{◌≡◌, ◌<◌, ℕ, suc, List, [], ◌∷◌, ◌++◌, Some, Option, None, map, get_or, refl, arith, subst}
use Rattle.std.specs.Prelude.{slice_get, All}
use Rattle.std.specs.List.{AllPairs, flat_map}
use Rattle.std.specs.Option.{option_map_or}
use Rattle.std.proofs.lemmas.List.Elements.{All-nil, All-head, All-tail, All-append, All-map}
use Rattle.std.proofs.lemmas.List.Kept.{AllPairs-cons}
use Rattle.std.proofs.lemmas.Option.{slice_get_within, get_or_from_slice_get}

pub all-flat_map : {X A : Type 0} (P : A → Type 0) (g : X → List A) (xs : List X) → All (λ x. All P (g x)) xs → All P (flat_map g xs)
all-flat_map P g [] each = All-nil P
all-flat_map P g (x ∷ xs) each =
    All-append P (g x) (flat_map g xs) (All-head (λ y. All P (g y)) x xs each) (all-flat_map P g xs (All-tail (λ y. All P (g y)) x xs each))

pub all-option : {X A : Type 0} (P : A → Type 0) (g : X → List A) (o : Option X) → ((x : X) → o ≡ Some x → All P (g x)) → All P (option_map_or g o [])
all-option P g None each = All-nil P
all-option P g (Some x) each = each x refl

module _ {A : Type 0} (R : A → A → Type 0) where
  pub ordered-nil : AllPairs R []
  ordered-nil = λ i j d before below. absurd (omega arith)

  ordered-head : (x : A) (xs : List A) → AllPairs R (x ∷ xs) → All (R x) xs
  ordered-head x xs pairs = λ k d below. pairs 0 (suc k) d (omega arith) (omega arith)

  ordered-tail : (x : A) (xs : List A) → AllPairs R (x ∷ xs) → AllPairs R xs
  ordered-tail x xs pairs = λ i j d before below. pairs (suc i) (suc j) d (omega arith) (omega arith)

  -- what stands at two places
  pub at_places : (xs : List A) → AllPairs R xs → (i j : ℕ) (x y : A) → i < j → slice_get xs i ≡ Some x → slice_get xs j ≡ Some y → R x y
  at_places xs pairs i j x y before at_i at_j =
      subst (λ (z : A). R x z) (get_or_from_slice_get xs j y x at_j)
      (subst (λ (z : A). R z (get_or xs j x)) (get_or_from_slice_get xs i x x at_i) (pairs i j x before (slice_get_within xs j y at_j)))

  pub ordered-append : (xs ys : List A) → AllPairs R xs → AllPairs R ys → All (λ x. All (R x) ys) xs → AllPairs R (xs ++ ys)
  ordered-append [] ys first second across = second
  ordered-append (x ∷ xs) ys first second across =
      AllPairs-cons R x (xs ++ ys) (All-append (R x) xs ys (ordered-head x xs first) (All-head (λ z. All (R z) ys) x xs across))
      (ordered-append xs ys (ordered-tail x xs first) second (All-tail (λ z. All (R z) ys) x xs across))

  pub ordered-option : {X : Type 0} (g : X → List A) (o : Option X) → ((x : X) → o ≡ Some x → AllPairs R (g x)) → AllPairs R (option_map_or g o [])
  ordered-option g None each = ordered-nil
  ordered-option g (Some x) each = each x refl

pub ordered-map : {X A : Type 0} (R : A → A → Type 0) (f : X → A) (xs : List X) → AllPairs (λ x y. R (f x) (f y)) xs → AllPairs R (map f xs)
ordered-map R f [] pairs = ordered-nil R
ordered-map R f (x ∷ xs) pairs =
    AllPairs-cons R (f x) (map f xs) (All-map (R (f x)) f xs (ordered-head (λ y z. R (f y) (f z)) x xs pairs))
    (ordered-map R f xs (ordered-tail (λ y z. R (f y) (f z)) x xs pairs))

pub ordered-flat_map : {X A : Type 0} (Q : X → X → Type 0) (R : A → A → Type 0) (g : X → List A) (xs : List X) → AllPairs Q xs →
    ((x : X) → AllPairs R (g x)) → ((x y : X) → Q x y → All (λ a. All (R a) (g y)) (g x)) → AllPairs R (flat_map g xs)
ordered-flat_map Q R g [] pairs each across = ordered-nil R
ordered-flat_map Q R g (x ∷ xs) pairs each across =
    ordered-append R (g x) (flat_map g xs) (each x) (ordered-flat_map Q R g xs (ordered-tail Q x xs pairs) each across)
    (λ k d below. all-flat_map (R (get_or (g x) k d)) g xs (λ j e under. across x (get_or xs j e) (ordered-head Q x xs pairs j e under) k d below))

-- each value relates to each later one alike, whatever the relation of the numbers
pub ordered-weaker : {A : Type 0} (Q R : A → A → Type 0) (xs : List A) → ((x y : A) → Q x y → R x y) → AllPairs Q xs → AllPairs R xs
ordered-weaker Q R xs weaker pairs = λ i j d before below. weaker (get_or xs i d) (get_or xs j d) (pairs i j d before below)
