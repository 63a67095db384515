-- What holds of each element of two lists, one behind the other, holds of each of theirs.
use Rattle.std.proofs.Common.{List, [], ◌∷◌, ◌++◌, All, map}
use Rattle.std.proofs.lemmas.List.Elements.{All-nil, All-cons, All-head, All-tail}

module _ {A : Type 0} (P : A → Type 0) where
  pub All-front : (xs ys : List A) → All P (xs ++ ys) → All P xs
  All-front [] ys h = All-nil P
  All-front (x ∷ xs) ys h = All-cons P x xs (All-head P x (xs ++ ys) h) (All-front xs ys (All-tail P x (xs ++ ys) h))

  pub All-behind : (xs ys : List A) → All P (xs ++ ys) → All P ys
  All-behind [] ys h = h
  All-behind (x ∷ xs) ys h = All-behind xs ys (All-tail P x (xs ++ ys) h)

  pub All-mapped : {B : Type 0} (f : B → A) (xs : List B) → All P (map f xs) → All (λ x. P (f x)) xs
  All-mapped f [] h = All-nil (λ x. P (f x))
  All-mapped f (x ∷ xs) h = All-cons (λ y. P (f y)) x xs (All-head P (f x) (map f xs) h) (All-mapped f xs (All-tail P (f x) (map f xs) h))
