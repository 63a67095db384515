-- Lists that are taken apart from the end.
use Rattle.std.proofs.Common.{◌≡◌, ◌∙◌, ◌<◌, ◌+◌, ℕ, List, [], ◌∷◌, ◌++◌, map, length, take, drop, get_or, ap, sym, refl, arith, length-take}
use Rattle.std.proofs.lemmas.List.{take_all, take_more, drop_more, drop-drop, drop-map, length_push, same_from_push}
use native.Mathlib.Nat.{le_refl}

module _ {X : Type 0} (xs : List X) where
  -- what is left of the list is its front
  pub record IsFront (rest : List X) : Type 0 where
    pub front : rest ≡ take (length rest) xs

  pub whole_front : IsFront xs
  whole_front = record { front = sym (take_all (length xs) xs (le_refl _)) }

  -- the last item of a front, and the rest behind it
  pub record IsLast (rest : List X) (x : X) : Type 0 where
    pub front : IsFront rest
    pub behind : drop (length rest) xs ≡ x ∷ drop (length rest + 1) xs

  pub last_of_front : (before rest : List X) (x : X) → IsFront before → before ≡ rest ++ x ∷ [] → IsLast rest x
  last_of_front before rest x is splits =
      let n = length rest in
      let count : length before ≡ n + 1 = ap length splits ∙ length_push rest x in
      let below : n < length xs = omega (arith, ap length is.front ∙ length-take (length before) xs) in
      let taken : rest ++ x ∷ [] ≡ take n xs ++ get_or xs n x ∷ [] =
      sym splits ∙ is.front ∙ ap (λ k. take k xs) count ∙ take_more xs n x below in
      let parts = same_from_push rest (take n xs) x (get_or xs n x) taken in
      record {
        front = record { front = parts.0 };
        behind = drop_more xs n x below ∙ ap (λ y. y ∷ drop (n + 1) xs) (sym parts.1);
      }

-- the item of which a function gives what stands first behind a place
pub item_behind : {X Y : Type 0} (f : X → Y) (xs : List X) (n : ℕ) (y : Y) (ys : List Y) → drop n (map f xs) ≡ y ∷ ys →
    (x : X) × (y ≡ f x) × (drop n xs ≡ x ∷ drop (n + 1) xs)
item_behind {X} {Y} f xs n y ys is = go (drop n xs) refl (sym (drop-map f n xs) ∙ is) where
  go : (rest : List X) → drop n xs ≡ rest → map f (drop n xs) ≡ y ∷ ys → (x : X) × (y ≡ f x) × (drop n xs ≡ x ∷ drop (n + 1) xs)
  go [] at mapped = let none : [] ≡ y ∷ ys = sym (ap (map f) at) ∙ mapped in absurd cc
  go (x ∷ rest) at mapped =
      let some : f x ∷ map f rest ≡ y ∷ ys = sym (ap (map f) at) ∙ mapped in
      let next : drop (n + 1) xs ≡ rest = sym (drop-drop 1 n xs) ∙ ap (drop 1) at in
      (x, (let same : y ≡ f x = cc in same), at ∙ ap (λ t. x ∷ t) (sym next))
