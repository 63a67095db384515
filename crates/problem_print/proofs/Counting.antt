-- Names that are known one after another: each is one of those before, or the next one.
use Rattle.std.proofs.Common.{◌≡◌, ◌≢◌, ℕ, ◌+◌, ◌<◌, ◌≤◌, ◌==◌, Bool, true, false, cond, nat_lt, List, [], ◌∷◌, ◌++◌, length, take, get_or, Option, Some, None, refl, ap, sym, ◌∙◌, arith}
use Rattle.std.specs.Prelude.{AllPairs}
use Rattle.std.specs.Str.{bytes_eq}
use Rattle.std.proofs.lemmas.Bool.Decides.{nat_tests}
use Rattle.std.proofs.lemmas.Option.{none-some}
use Rattle.std.proofs.lemmas.List.{get_or-take, get_or_default, length-take-le, take_more}
use Rattle.std.proofs.lemmas.List.Folds.{list_any_at, list_any_none}
use Rattle.std.proofs.lemmas.List.Sums.{position_or_len_is}
use Rattle.std.proofs.lemmas.Slice.Eq.{bytes_eq-Decides}
use Rattle.uts_lex.specs.Names.{number_of, with_name}
use Rattle.kernel_parse.specs.Grammar.{Words}
use Rattle.problem_print.specs.Printed.{name_text}
use Rattle.problem_printable.specs.Numbering.{known_behind}
use Rattle.problem_printable.specs.Known.{known_followed, known_broken}

same_word : (a : List ℕ) → bytes_eq a a ≡ true
same_word a = (bytes_eq-Decides a a).1 refl

other_word : (a b : List ℕ) → a ≢ b → bytes_eq a b ≡ false
other_word a b differ = by (bytes_eq a b) refl
  where
    by : (r : Bool) → bytes_eq a b ≡ r → r ≡ false
    by true e = absurd (differ ((bytes_eq-Decides a b).0 e))
    by false e = refl

module _ (names : Words) (distinct : AllPairs ◌≢◌ names) where
  -- a word is none of those before it
  before : (k name m : ℕ) (d : List ℕ) → name < length names → m < name → m < k → bytes_eq (get_or names name []) (get_or (take k names) m d) ≡ false
  before k name m d within earlier inside =
      rw (get_or-take k names m d inside, get_or_default names name [] d within)
      (other_word (get_or names name d) (get_or names m d) (λ e. distinct m name d earlier within (sym e)))

  -- where a word stands among the first ones
  here : (k name : ℕ) → name < k → bytes_eq (get_or names name []) (get_or (take k names) name []) ≡ true
  here k name below = rw (get_or-take k names name [] below) (same_word (get_or names name []))

  known : (k name : ℕ) → name < k → k ≤ length names → number_of (take k names) (get_or names name []) ≡ name
  known k name below within =
      let size : length (take k names) ≡ k = length-take-le k names within in
      position_or_len_is (bytes_eq (get_or names name [])) (take k names) name [] (omega (arith, size))
      (λ m earlier. before k name m [] (omega arith) earlier (omega arith)) (λ inside. here k name below)

  new : (k : ℕ) → k < length names → number_of (take k names) (get_or names k []) ≡ k
  new k within =
      let size : length (take k names) ≡ k = length-take-le k names (omega arith) in
      position_or_len_is (bytes_eq (get_or names k [])) (take k names) k [] (omega (arith, size))
      (λ m earlier. before k k m [] within earlier earlier) (λ inside. absurd (omega (arith, size, inside)))

  -- what is known behind one name, of which so many are known before
  pub record Named (k j name : ℕ) : Type 0 where
    pub below : name < j
    pub rises : k ≤ j
    pub number : number_of (take k names) (name_text names name) ≡ name
    pub words : with_name (take k names) (name_text names name) ≡ take j names

  pub named : (k j name : ℕ) → known_behind k (name ∷ []) ≡ Some j → j ≤ length names → Named k j name
  named k j name e within = by (nat_lt name k) refl e
    where
      size : k ≤ length names → length (take k names) ≡ k
      size h = length-take-le k names h

      by-new : (b : Bool) → (name == k) ≡ b → cond b (known_behind (k + 1) []) None ≡ Some j → Named k j name
      by-new true is e =
          let same : name ≡ k = grind (arith, nat_tests, is) in
          let next : k + 1 ≡ j = cc in
          let inside : k < length names = omega arith in
          let place = new k inside in
          let many = size (omega arith) in
          let none = list_any_none (bytes_eq (get_or names k [])) (take k names)
          (λ m d there. let earlier : m < k = omega (arith, many) in before k k m d inside earlier earlier) in
          let with : with_name (take k names) (get_or names k []) ≡ take j names = rw none (sym (take_more names k [] inside) ∙ ap (λ (n : ℕ). take n names) next) in
          record {
            below = omega arith;
            rises = omega arith;
            number = ap (λ (n : ℕ). number_of (take k names) (get_or names n [])) same ∙ place ∙ sym same;
            words = ap (λ (n : ℕ). with_name (take k names) (get_or names n [])) same ∙ with;
          }
      by-new false is e = absurd cc

      by : (b : Bool) → nat_lt name k ≡ b → cond b (known_behind k []) (cond (name == k) (known_behind (k + 1) []) None) ≡ Some j → Named k j name
      by true is e =
          let below : name < k = grind (arith, nat_tests, is) in
          let same : k ≡ j = cc in
          let inside : k ≤ length names = omega arith in
          let place = known k name below inside in
          let some = list_any_at (bytes_eq (get_or names name [])) (take k names) name [] (omega (arith, size inside)) (here k name below) in
          record {
            below = omega arith;
            rises = omega arith;
            number = place;
            words = rw some (ap (λ (n : ℕ). take n names) same);
          }
      by false is e = by-new (name == k) refl e

-- ---- several names

-- what is known behind some names and more, by parts
pub record Between (k j : ℕ) (xs ys : List ℕ) : Type 0 where
  pub middle : ℕ
  pub first : known_behind k xs ≡ Some middle
  pub second : known_behind middle ys ≡ Some j

pub between : (k j : ℕ) (xs ys : List ℕ) → known_behind k (xs ++ ys) ≡ Some j → Between k j xs ys
between k j xs ys e = by (known_behind k xs) refl
  where
    by : (r : Option ℕ) → known_behind k xs ≡ r → Between k j xs ys
    by None is = absurd (none-some j (sym (known_broken k xs ys is) ∙ e))
    by (Some m) is = record { middle = m; first = is; second = sym (known_followed k xs ys m is) ∙ e }

pub none_behind : (k j : ℕ) → known_behind k [] ≡ Some j → k ≡ j
none_behind k j e = cc
