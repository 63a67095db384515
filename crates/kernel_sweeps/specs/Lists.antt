-- Lists for each item of a list, joined.
use Rattle.std.proofs.Common.{◌≡◌, ◌∙◌, List, [], ◌∷◌, ◌++◌, map, ap, refl, append-nil}
use Rattle.std.specs.List.{flat_map}
use Rattle.std.proofs.lemmas.List.{map-append}
use Rattle.std.proofs.lemmas.List.Concat.{flat_map-append}

pub flat_map-flat_map : {X Y A : Type 0} (g : Y → List A) (h : X → List Y) (xs : List X) →
    flat_map g (flat_map h xs) ≡ flat_map (λ x. flat_map g (h x)) xs
flat_map-flat_map g h [] = refl
flat_map-flat_map g h (x ∷ xs) =
    flat_map-append g (h x) (flat_map h xs) ∙ ap (λ rest. flat_map g (h x) ++ rest) (flat_map-flat_map g h xs)

pub map-flat_map : {X Y A : Type 0} (f : Y → A) (h : X → List Y) (xs : List X) →
    map f (flat_map h xs) ≡ flat_map (λ x. map f (h x)) xs
map-flat_map f h [] = refl
map-flat_map f h (x ∷ xs) =
    map-append f (h x) (flat_map h xs) ∙ ap (λ rest. map f (h x) ++ rest) (map-flat_map f h xs)

pub flat_map-none : {X A : Type 0} (f : X → List A) → ((x : X) → f x ≡ []) → (xs : List X) → flat_map f xs ≡ []
flat_map-none f none [] = refl
flat_map-none f none (x ∷ xs) = ap (λ first. first ++ flat_map f xs) (none x) ∙ flat_map-none f none xs

-- one item more
pub flat_map-more : {X A : Type 0} (f : X → List A) (xs : List X) (x : X) → flat_map f (xs ++ x ∷ []) ≡ flat_map f xs ++ f x
flat_map-more f xs x = flat_map-append f xs (x ∷ []) ∙ ap (λ last. flat_map f xs ++ last) (append-nil (f x))

-- two functions that agree
pub flat_map-same : {X A : Type 0} (f g : X → List A) → ((x : X) → f x ≡ g x) → (xs : List X) → flat_map f xs ≡ flat_map g xs
flat_map-same f g same [] = refl
flat_map-same f g same (x ∷ xs) =
    ap (λ first. first ++ flat_map f xs) (same x) ∙ ap (λ rest. g x ++ rest) (flat_map-same f g same xs)
