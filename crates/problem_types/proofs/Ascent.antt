-- Lists of lines that ascend, part after part.
use Rattle.std.proofs.Common.{◌≡◌, ℕ, ◌+◌, ◌<◌, Bool, true, false, ◌∙◌, refl, sym, ap, arith, ◌↔◌, List, [], ◌∷◌, ◌++◌, map, length, get_or, drop, drop-cons, add-one, ltb-true, ltb-false, Option, SomeIff, Some, None, IsSome, if◌then◌else◌, nat_lt}
use Rattle.std.proofs.lemmas.Option.{none-some}
use Rattle.std.specs.List.{flat_map}
use Rattle.std.specs.List.Sorted.{IsStrictlyIncreasing}
use Rattle.problem_types.specs.Ascent.{last_ascending, followed, increasing_where_some, some_where_increasing}

pub next_line : (last line : ℕ) (r : Option ℕ) → SomeIff r (last < line) line → r ≡ last_ascending last (line ∷ [])
next_line last line r h = next_by (nat_lt last line) refl r h where
  next_by : (t : Bool) → nat_lt last line ≡ t → (r : Option ℕ) → SomeIff r (last < line) line →
      r ≡ (if t then Some line else None)
  next_by true is None h = absurd (h (ltb-true last line is))
  next_by true is (Some x) h = cc
  next_by false is None h = refl
  next_by false is (Some x) h = absurd (omega (arith, h.0, ltb-false last line is))

broken_by : (t : Bool) (p q : Option ℕ) → (p ≡ None → q ≡ None) →
    (if t then p else None) ≡ None → (if t then q else None) ≡ None
broken_by true p q h e = h e
broken_by false p q h e = refl

pub broken : (a : ℕ) (xs ys : List ℕ) → last_ascending a xs ≡ None → last_ascending a (xs ++ ys) ≡ None
broken a [] ys e = absurd (none-some a (sym e))
broken a (x ∷ xs) ys e = broken_by (nat_lt a x) _ _ (broken x xs ys) e

-- the rest of a list of statements
pub rest_of_map : {A : Type 0} (f : A → ℕ) (xs : List A) (i : ℕ) (d : A) → i < length xs →
    map f (drop i xs) ≡ f (get_or xs i d) ∷ map f (drop (i + 1) xs)
rest_of_map f xs i d h = rw (add-one, drop-cons xs i d) refl

rest_of_flat_map : {A : Type 0} (f : A → List ℕ) (xs : List A) (i : ℕ) (d : A) → i < length xs →
    flat_map f (drop i xs) ≡ f (get_or xs i d) ++ flat_map f (drop (i + 1) xs)
rest_of_flat_map f xs i d h = rw (add-one, drop-cons xs i d) refl

module _ {A : Type 0} (lines : A → List ℕ) (xs : List A) (i : ℕ) (x : A) (a last : ℕ) (within : i < length xs)
    (item : x ≡ get_or xs i x) (so_far : last_ascending a (flat_map lines xs) ≡ last_ascending last (flat_map lines (drop i xs))) where
  left : last_ascending a (flat_map lines xs) ≡ last_ascending last (lines x ++ flat_map lines (drop (i + 1) xs))
  left = so_far ∙ ap (last_ascending last) (rest_of_flat_map lines xs i x within)
      ∙ ap (λ y. last_ascending last (lines y ++ flat_map lines (drop (i + 1) xs))) (sym item)

  -- one more statement, with its lines in order, and not
  pub one_more : (line : ℕ) → last_ascending last (lines x) ≡ Some line →
      last_ascending a (flat_map lines xs) ≡ last_ascending line (flat_map lines (drop (i + 1) xs))
  one_more line e = left ∙ followed last (lines x) _ line e

  pub stopped : last_ascending last (lines x) ≡ None → last_ascending a (flat_map lines xs) ≡ None
  stopped e = left ∙ broken last (lines x) _ e

-- numbers increase where the last of them is found
pub increases : (a : ℕ) (xs : List ℕ) → IsSome (last_ascending a xs) ↔ IsStrictlyIncreasing (a ∷ xs)
increases a xs = (increasing_where_some a xs, some_where_increasing a xs)

-- the lines up to the variables, theirs, those of the reductions, and all later ones
module _ (a : ℕ) (grid variables reductions schedule : List ℕ) (g : ℕ) (to_grid : last_ascending a grid ≡ Some g) where
  pub stops_at_variables : last_ascending g variables ≡ None →
      last_ascending a (grid ++ (variables ++ (reductions ++ schedule))) ≡ None
  stops_at_variables e = followed a grid _ g to_grid ∙ broken g variables _ e

  module _ (v : ℕ) (to_variables : last_ascending g variables ≡ Some v) where
    pub stops_at_reductions : last_ascending v reductions ≡ None →
        last_ascending a (grid ++ (variables ++ (reductions ++ schedule))) ≡ None
    stops_at_reductions e = followed a grid _ g to_grid ∙ (followed g variables _ v to_variables ∙ broken v reductions _ e)

    pub goes_on : (r : ℕ) → last_ascending v reductions ≡ Some r →
        last_ascending a (grid ++ (variables ++ (reductions ++ schedule))) ≡ last_ascending r schedule
    goes_on r e = followed a grid _ g to_grid ∙ (followed g variables _ v to_variables ∙ followed v reductions _ r e)

pub ruleset parts = (followed, broken)
