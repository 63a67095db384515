-- How the names grow by what is spelled: each part names words that are known, or the next new one.
use Rattle.std.proofs.Common.{◌≡◌, ◌≢◌, ℕ, ◌+◌, ◌<◌, Bool, true, false, cond, ◌==◌, refl, sym, ap, ◌∙◌, arith, List, [], ◌∷◌, ◌++◌, length, get_or, Some, nat_lt}
use Rattle.std.specs.List.{list_any}
use Rattle.std.specs.Str.{bytes_eq}
use Rattle.std.proofs.lemmas.Bool.{false≢true}
use Rattle.std.proofs.lemmas.Bool.Decides.{nat_tests}
use Rattle.std.proofs.lemmas.List.{length-append}
use Rattle.std.proofs.lemmas.List.Elements.{All-nil, All-push}
use Rattle.std.proofs.lemmas.List.Folds.{list_any_at}
use Rattle.std.proofs.lemmas.List.Quantifiers.{all_pairs_push}
use Rattle.std.proofs.lemmas.Slice.Eq.{bytes_eq-Decides}
use Rattle.uts_lex.specs.Names.{number_of, with_name}
use Rattle.uts_lex.specs.NameNumbers.{found_below, found_nowhere}
use Rattle.kernel_parse.specs.Grammar.{Words}
use Rattle.problem_printable.specs.Numbering.{known_behind}
use Rattle.problem_printable.specs.Printable.{IsName, AreNames}
use Rattle.problem_printable.specs.Known.{known_followed}

pub no_names : AreNames []
no_names = record { words = All-nil IsName; distinct = λ i j d lt within. absurd (omega arith) }

-- from some names, by the numbers of those that are used, to the names behind them
pub record Grows (names : Words) (used : List ℕ) (after : Words) : Type 0 where
  pub numbered : known_behind (length names) used ≡ Some (length after)
  pub kept : AreNames names → AreNames after

pub grows_none : (names : Words) → Grows names [] names
grows_none names = record { numbered = refl; kept = λ h. h }

pub grows_both : (names between after : Words) (first second : List ℕ) → Grows names first between → Grows between second after
    → Grows names (first ++ second) after
grows_both names between after first second f g = record {
  numbered = known_followed (length names) first second (length between) f.numbered ∙ g.numbered;
  kept = λ h. g.kept (f.kept h);
}

-- a known name, and the next one
known_name : (known name : ℕ) → name < known → known_behind known (name ∷ []) ≡ Some known
known_name known name low = let test : nat_lt name known ≡ true = grind (arith, nat_tests) in rw test refl

next_name : (known name : ℕ) → name ≡ known → known_behind known (name ∷ []) ≡ Some (known + 1)
next_name known name is =
    let test : nat_lt name known ≡ false = grind (arith, nat_tests) in
    let next : (name == known) ≡ true = grind (arith, nat_tests) in
    rw (test, next) refl

name_numbered : (names : Words) (word : List ℕ)
    → known_behind (length names) (number_of names word ∷ []) ≡ Some (length (with_name names word))
name_numbered names word = by (list_any (bytes_eq word) names) refl
  where
    by : (b : Bool) → list_any (bytes_eq word) names ≡ b
        → known_behind (length names) (number_of names word ∷ []) ≡ Some (length (cond b names (names ++ word ∷ [])))
    by true there = known_name (length names) (number_of names word) (found_below (bytes_eq word) names there)
    by false new =
        let longer : length names + 1 ≡ length (names ++ word ∷ []) = omega (arith, length-append names (word ∷ [])) in
        next_name (length names) (number_of names word) (found_nowhere (bytes_eq word) names new) ∙ ap (λ n. Some n) longer

name_kept : (names : Words) (word : List ℕ) → IsName word → AreNames names → AreNames (with_name names word)
name_kept names word is h = by (list_any (bytes_eq word) names) refl
  where
    by : (b : Bool) → list_any (bytes_eq word) names ≡ b → AreNames (cond b names (names ++ word ∷ []))
    by true there = h
    by false new = record {
      words = All-push IsName names word h.words is;
      distinct = all_pairs_push ◌≢◌ names word h.distinct (λ k d inside same. false≢true (sym new ∙ list_any_at (bytes_eq word) names k d inside ((bytes_eq-Decides word (get_or names k d)).1 (sym same))));
    }

pub grows_name : (names : Words) (word : List ℕ) → IsName word → Grows names (number_of names word ∷ []) (with_name names word)
grows_name names word is = record { numbered = name_numbered names word; kept = name_kept names word is }
