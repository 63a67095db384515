-- One number more of a row, from the left.
use Rattle.std.proofs.Common.{◌≡◌, ◌∙◌, ℕ, zero, suc, ◌+◌, ◌<◌, List, [], ◌∷◌, ◌++◌, length, map, get_or, set, take, drop, refl, ap, sym, arith, add-one, drop-cons, length-append}
use Rattle.std.proofs.lemmas.List.{length-map, map-append, set_at, append_assoc}
use Rattle.uts_geom.specs.Spans.{counted}
use Rattle.uts_geom.specs.Counting.{length-counted}
use lib.Lanes.{zip2}

module _ {A B : Type 0} (f : A → B → A) where
  -- the next place of a list whose first i places hold what f gives over both lists
  place_of : (xs : List A) (ys : List B) (i : ℕ) (d : A) → i < length xs → i < length ys →
      get_or (zip2 f (take i xs) (take i ys) ++ drop i xs) i d ≡ get_or xs i d
  place_of [] ys i d in_left in_right = absurd (omega arith)
  place_of (x ∷ xs) [] i d in_left in_right = absurd (omega arith)
  place_of (x ∷ xs) (y ∷ ys) zero d in_left in_right = refl
  place_of (x ∷ xs) (y ∷ ys) (suc i) d in_left in_right = place_of xs ys i d (omega arith) (omega arith)

  -- that place written, with what f gives there
  next_of : (xs : List A) (ys : List B) (i : ℕ) (d : A) (e : B) → i < length xs → i < length ys →
      set (zip2 f (take i xs) (take i ys) ++ drop i xs) i (f (get_or xs i d) (get_or ys i e)) ≡ zip2 f (take (suc i) xs) (take (suc i) ys) ++ drop (suc i) xs
  next_of [] ys i d e in_left in_right = absurd (omega arith)
  next_of (x ∷ xs) [] i d e in_left in_right = absurd (omega arith)
  next_of (x ∷ xs) (y ∷ ys) zero d e in_left in_right = refl
  next_of (x ∷ xs) (y ∷ ys) (suc i) d e in_left in_right = ap (λ l. f x y ∷ l) (next_of xs ys i d e (omega arith) (omega arith))

  -- a loop that writes over each x of xs what f gives with the y in its place
  pub combined_more : (xs zs : List A) (ys : List B) (i : ℕ) (d : A) (e : B) → i < length xs → i < length ys →
      zs ≡ zip2 f (take i xs) (take i ys) ++ drop i xs →
      set zs i (f (get_or zs i d) (get_or ys i e)) ≡ zip2 f (take (i + 1) xs) (take (i + 1) ys) ++ drop (i + 1) xs
  combined_more xs zs ys i d e in_left in_right so_far =
      rw (so_far, place_of xs ys i d in_left in_right, add-one) (next_of xs ys i d e in_left in_right)

-- a loop that writes f k at each place k
pub counted_more : {A : Type 0} (f : ℕ → A) (xs zs : List A) (i : ℕ) → i < length xs → zs ≡ map f (counted 0 i) ++ drop i xs →
    set zs i (f i) ≡ map f (counted 0 (i + 1)) ++ drop (i + 1) xs
counted_more f xs zs i within so_far =
    let done = map f (counted 0 i) in
    let long : length done ≡ i = length-map (counted 0 i) f ∙ length-counted 0 i in
    let zero_more : 0 + i ≡ i = omega arith in
    rw (so_far, add-one, map-append, zero_more, drop-cons xs i (f i), set_at done _ _ (f i) i long)
    (sym (append_assoc done (f i ∷ []) (drop (suc i) xs)))
