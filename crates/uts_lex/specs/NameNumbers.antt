-- Which numbers names have: that of a known one is below how many there are, and a new one's is how many there were.
use Rattle.std.proofs.Common.{◌≡◌, ℕ, suc, ◌+◌, ◌<◌, ◌≤◌, Bool, true, false, cond, List, [], ◌∷◌, ◌++◌, length, refl, arith}
use Rattle.std.specs.Prelude.{◌||◌, not}
use Rattle.std.specs.List.{list_any, prefix_len}
use Rattle.std.specs.Str.{bytes_eq}
use Rattle.std.proofs.lemmas.List.{length-append}
use Rattle.std.proofs.lemmas.List.Sums.{prefix_len-le-length}
use Rattle.uts_lex.specs.Names.{number_of, with_name}

pub found_below : {X : Type 0} (p : X → Bool) (xs : List X) → list_any p xs ≡ true → prefix_len (λ x. not (p x)) xs < length xs
found_below p [] e = absurd cc
found_below p (x ∷ xs) e = by (p x) e (found_below p xs)
  where
    by : (b : Bool) → (b || list_any p xs) ≡ true → (list_any p xs ≡ true → prefix_len (λ x. not (p x)) xs < length xs)
        → cond (not b) (1 + prefix_len (λ x. not (p x)) xs) 0 < suc (length xs)
    by true e more = omega arith
    by false e more = let h = more e in omega arith

pub found_nowhere : {X : Type 0} (p : X → Bool) (xs : List X) → list_any p xs ≡ false → prefix_len (λ x. not (p x)) xs ≡ length xs
found_nowhere p [] e = refl
found_nowhere p (x ∷ xs) e = by (p x) e (found_nowhere p xs)
  where
    by : (b : Bool) → (b || list_any p xs) ≡ false → (list_any p xs ≡ false → prefix_len (λ x. not (p x)) xs ≡ length xs)
        → cond (not b) (1 + prefix_len (λ x. not (p x)) xs) 0 ≡ suc (length xs)
    by true e more = absurd cc
    by false e more = let h = more e in omega arith

-- a name's number is below how many names there are with it
pub number_below : (names : List (List ℕ)) (name : List ℕ) → (number_of names name < length (with_name names name)) × (length names ≤ length (with_name names name))
number_below names name = by (list_any (bytes_eq name) names) refl
  where
    by : (b : Bool) → list_any (bytes_eq name) names ≡ b
        → (number_of names name < length (cond b names (names ++ name ∷ []))) × (length names ≤ length (cond b names (names ++ name ∷ [])))
    by true e = (found_below (bytes_eq name) names e, omega arith)
    by false e =
        let within = prefix_len-le-length (λ (word : List ℕ). not (bytes_eq name word)) names in
        (omega (arith, within, length-append names (name ∷ [])), omega (arith, length-append names (name ∷ [])))
