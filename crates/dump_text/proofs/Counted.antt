-- Lists made from the numbers below a bound.
use Rattle.std.proofs.Common.{◌≡◌, ◌∙◌, ◌<◌, ◌+◌, ℕ, List, [], ◌∷◌, ◌++◌, All, length, length-append, get_or, ap, subst, arith, append-nil}
use Rattle.std.specs.List.{flat_map}
use Rattle.std.proofs.lemmas.Grind.{flat_map-append}
use Rattle.std.proofs.lemmas.List.{get_or-append-add, get_or_append_left}
use Rattle.uts_geom.specs.Spans.{counted}
use Rattle.dump_text.specs.Counted.{counted_split}

-- what holds of each item of a list holds of each item of a part of it
all_between : {X : Type 0} (P : X → Type 0) (whole a b rest : List X) → whole ≡ (a ++ b) ++ rest → All P whole → All P b
all_between P whole a b rest is all = λ k d below.
    let within : length a + k < length whole = omega (arith, ap length is, length-append (a ++ b) rest, length-append a b) in
    let before : length a + k < length (a ++ b) = omega (arith, length-append a b) in
    subst P
    (ap (λ t. get_or t (length a + k) d) is ∙ get_or_append_left (a ++ b) rest d (length a + k) before ∙ get_or-append-add a b k d)
    (all (length a + k) d within)

-- the list of one number is a part of the joined lists of all
pub all_of_one : {X : Type 0} (P : X → Type 0) (f : ℕ → List X) (k n : ℕ) → k < n → All P (flat_map f (counted 0 n)) → All P (f k)
all_of_one P f k n below all =
    let split = counted_split k n below in
    all_between P (flat_map f (counted 0 n)) (flat_map f (counted 0 k)) (f k) (flat_map f split.0)
    (ap (flat_map f) split.1 ∙ flat_map-append f (counted 0 k ++ k ∷ []) split.0
    ∙ ap (λ t. t ++ flat_map f split.0)
    (flat_map-append f (counted 0 k) (k ∷ []) ∙ ap (λ t. flat_map f (counted 0 k) ++ t) (append-nil (f k)))) all
