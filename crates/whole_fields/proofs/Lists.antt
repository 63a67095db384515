-- Lists by place.
use Rattle.std.proofs.Common.{◌≡◌, ◌∙◌, ◌≤◌, ◌<◌, ◌+◌, ◌-◌, ◌⊎◌, inl, inr, ℕ, zero, suc, List, [], ◌∷◌, ◌++◌, length, map, drop, replicate, get_or, Some, refl, ap, sym, arith, length-append}
use Rattle.std.specs.Prelude.{slice_get, slice_index_or}
use Rattle.std.specs.List.{flat_map}
use Rattle.std.proofs.Math.Nat.{eq-or-lt_of_le}
use Rattle.std.proofs.Math.Path.{fun_ext}
use Rattle.std.proofs.lemmas.List.{ext_get_or, length-map, map-append, get_or-map, get_or_append_left, get_or-append_right}
use Rattle.std.proofs.lemmas.Option.{get_or_from_slice_get}
use Rattle.uts_geom.specs.Spans.{counted}
use Rattle.uts_geom.specs.Counting.{length-counted, get-counted}
use Rattle.uts_geom.specs.ByPlace.{get-by_place, length-by_place, listed_by}

-- what is left of two lists joined
pub drop_right : {A : Type 0} (xs ys : List A) (n k : ℕ) → n ≡ length xs + k → drop n (xs ++ ys) ≡ drop k ys
drop_right [] ys n k at = ap (λ (j : ℕ). drop j ys) (let e : n ≡ k = omega arith in e)
drop_right (x ∷ xs) ys zero k at = absurd (omega arith)
drop_right (x ∷ xs) ys (suc n) k at = drop_right xs ys n k (omega arith)

-- an item of a list whose items are all one
pub item_of_replicate : {A : Type 0} (n : ℕ) (item : A) (k : ℕ) → slice_index_or (replicate n item) k item ≡ item
item_of_replicate zero item k = refl
item_of_replicate (suc n) item zero = refl
item_of_replicate (suc n) item (suc k) = item_of_replicate n item k

pub by_place_alike : {A : Type 0} (f g : ℕ → A) (n : ℕ) (d : A) → ((k : ℕ) → k < n → f k ≡ g k) → map f (counted 0 n) ≡ map g (counted 0 n)
by_place_alike f g n d same = listed_by g n (map f (counted 0 n)) d (length-by_place f n) (λ k below. get-by_place f n k d below ∙ same k below)

-- a function over joined lists
pub map-flat_map : {A B C : Type 0} (f : B → C) (g : A → List B) (items : List A) → map f (flat_map g items) ≡ flat_map (λ a. map f (g a)) items
map-flat_map f g [] = refl
map-flat_map f g (a ∷ items) = map-append f (g a) (flat_map g items) ∙ ap (λ rest. map f (g a) ++ rest) (map-flat_map f g items)

pub map_alike : {A B : Type 0} (f g : A → B) (items : List A) → ((a : A) → f a ≡ g a) → map f items ≡ map g items
map_alike f g items same = ap (λ h. map h items) (fun_ext same)
