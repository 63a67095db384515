-- How far lists of statements come, part after part.
use Rattle.std.proofs.Common.{◌≡◌, ℕ, ◌+◌, ◌<◌, ◌∙◌, refl, sym, ap, List, [], ◌∷◌, ◌++◌, map, length, get_or, drop, drop-cons, add-one, Option, Some, None, option_and_then}
use Rattle.std.proofs.lemmas.Option.{none-some}
use Rattle.std.specs.List.{flat_map}
use Rattle.problem_printable.specs.Numbering.{known_behind}
use Rattle.problem_printable.specs.Progress.{Mark, mark, next_progress, progress_behind}
use Rattle.problem_printable.specs.declared.progress.Progress.{Progress}

-- what follows a part that is in order, and one that is not
followed_by : (o : Option Progress) (f g : Progress → Option Progress) (r : Option Progress) (b : Progress)
    → ((x : Progress) → f x ≡ Some b → g x ≡ r) → option_and_then f o ≡ Some b → option_and_then g o ≡ r
followed_by None f g r b h e = absurd (none-some b e)
followed_by (Some x) f g r b h e = h x e

pub followed : (a : Progress) (xs ys : List Mark) (b : Progress) → progress_behind a xs ≡ Some b
    → progress_behind a (xs ++ ys) ≡ progress_behind b ys
followed a [] ys b e = let same : a ≡ b = cc in ap (λ c. progress_behind c ys) same
followed a (x ∷ xs) ys b e =
    followed_by (next_progress a x.line (known_behind a.known x.names)) _ _ _ b (λ c. followed c xs ys b) e

broken_by : (o : Option Progress) (f g : Progress → Option Progress) → ((x : Progress) → f x ≡ None → g x ≡ None)
    → option_and_then f o ≡ None → option_and_then g o ≡ None
broken_by None f g h e = refl
broken_by (Some x) f g h e = h x e

pub broken : (a : Progress) (xs ys : List Mark) → progress_behind a xs ≡ None → progress_behind a (xs ++ ys) ≡ None
broken a [] ys e = absurd (none-some a (sym e))
broken a (x ∷ xs) ys e = broken_by (next_progress a x.line (known_behind a.known x.names)) _ _ (λ c. broken c xs ys) e

-- one statement with no names, behind which there is none
some_again : (o : Option Progress) → o ≡ option_and_then (λ x. Some x) o
some_again None = refl
some_again (Some x) = refl

pub last_statement : (a : Progress) (line : ℕ) → next_progress a line (Some a.known) ≡ progress_behind a (mark line [] ∷ [])
last_statement a line = some_again (next_progress a line (Some a.known))

-- the rest of a list of statements
pub rest_of_map : {A : Type 0} (f : A → Mark) (xs : List A) (i : ℕ) (d : A) → i < length xs
    → map f (drop i xs) ≡ f (get_or xs i d) ∷ map f (drop (i + 1) xs)
rest_of_map f xs i d h = rw (add-one, drop-cons xs i d) refl

rest_of_flat_map : {A : Type 0} (f : A → List Mark) (xs : List A) (i : ℕ) (d : A) → i < length xs
    → flat_map f (drop i xs) ≡ f (get_or xs i d) ++ flat_map f (drop (i + 1) xs)
rest_of_flat_map f xs i d h = rw (add-one, drop-cons xs i d) refl

module _ {A : Type 0} (marks : A → List Mark) (xs : List A) (i : ℕ) (x : A) (a last : Progress) (within : i < length xs)
    (item : x ≡ get_or xs i x) (so_far : progress_behind a (flat_map marks xs) ≡ progress_behind last (flat_map marks (drop i xs))) where
  left : progress_behind a (flat_map marks xs) ≡ progress_behind last (marks x ++ flat_map marks (drop (i + 1) xs))
  left = so_far ∙ ap (progress_behind last) (rest_of_flat_map marks xs i x within)
      ∙ ap (λ y. progress_behind last (marks y ++ flat_map marks (drop (i + 1) xs))) (sym item)

  -- one more part in order, and one that is not
  pub one_more : (b : Progress) → progress_behind last (marks x) ≡ Some b
      → progress_behind a (flat_map marks xs) ≡ progress_behind b (flat_map marks (drop (i + 1) xs))
  one_more b e = left ∙ followed last (marks x) _ b e

  pub stopped : progress_behind last (marks x) ≡ None → progress_behind a (flat_map marks xs) ≡ None
  stopped e = left ∙ broken last (marks x) _ e

-- the statements up to the variables, theirs, those of the reductions, and all later ones
module _ (a : Progress) (grid variables reductions schedule : List Mark) (g : Progress) (to_grid : progress_behind a grid ≡ Some g) where
  pub stops_at_variables : progress_behind g variables ≡ None
      → progress_behind a (grid ++ (variables ++ (reductions ++ schedule))) ≡ None
  stops_at_variables e = followed a grid _ g to_grid ∙ broken g variables _ e

  module _ (v : Progress) (to_variables : progress_behind g variables ≡ Some v) where
    pub stops_at_reductions : progress_behind v reductions ≡ None
        → progress_behind a (grid ++ (variables ++ (reductions ++ schedule))) ≡ None
    stops_at_reductions e = followed a grid _ g to_grid ∙ (followed g variables _ v to_variables ∙ broken v reductions _ e)

    pub goes_on : (r : Progress) → progress_behind v reductions ≡ Some r
        → progress_behind a (grid ++ (variables ++ (reductions ++ schedule))) ≡ progress_behind r schedule
    goes_on r e = followed a grid _ g to_grid ∙ (followed g variables _ v to_variables ∙ followed v reductions _ r e)

pub ruleset parts = (followed, broken)
