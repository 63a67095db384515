-- Lists of numbers that ascend, and their reading.
use Rattle.std.proofs.Common.{◌≡◌, ℕ, ◌<◌, ◌≤◌, ◌^◌, Bool, true, false, List, [], ◌∷◌, ◌++◌, Option, Some, None, length, map, refl, sym, ap, ◌∙◌, subst, append_assoc, arith, ◌↔◌, ltb-true, eqb-true}
use Rattle.std.specs.Prelude.{◌&&◌, ◌==◌, nat_lt, All, IsTrue}
use Rattle.std.specs.Option.{option_map, option_map_or}
use Rattle.std.specs.List.Sorted.{IsStrictlyIncreasing}
use Rattle.std.proofs.lemmas.Bool.Decides.{nat_tests}
use Rattle.std.proofs.lemmas.List.{append-nil}
use Rattle.std.proofs.lemmas.List.Elements.{All-tail, All-cons}
use Rattle.problem_types.specs.Ascent.{increasing_from, rest_increases}
use Rattle.uts_lex.specs.Lexemes.{Lexeme}
use Rattle.kernel_parse.specs.Signs.{number}
use Rattle.kernel_parse.specs.Numbers.{is_number-decimal, digits_value-decimal}
use Rattle.kernel_parse.specs.Reading.{number_of_token, first_as}
use Rattle.kernel_parse.specs.Firsts.{both, test_some, first_as_some, number_some}
use Rattle.statement_parse.specs.Grammar.{Fits, AreNumbers}
use Rattle.statement_parse.specs.Reading.{numbers_from, ascends_from, ascends, is_list, list_at}

-- ---- the test

ascent_true : (a : ℕ) (xs : List ℕ) → ascends_from a xs ≡ true → IsStrictlyIncreasing (a ∷ xs)
ascent_true a [] e = λ k within. absurd (omega (arith, within))
ascent_true a (x ∷ xs) e = let p = both _ _ e in increasing_from a x xs (ltb-true a x p.0) (ascent_true x xs p.1)

lt_true : (a b : ℕ) → a < b → nat_lt a b ≡ true
lt_true a b h = grind (arith, nat_tests)

ascent_is : (a : ℕ) (xs : List ℕ) → IsStrictlyIncreasing (a ∷ xs) → ascends_from a xs ≡ true
ascent_is a [] h = refl
ascent_is a (x ∷ xs) h = rw (lt_true a x (h 0 (omega arith)), ascent_is x xs (rest_increases a x xs h)) refl

pub list_true : (xs : List ℕ) → is_list xs ≡ true → (1 ≤ length xs) × IsStrictlyIncreasing xs
unfolding is_list
list_true [] e = absurd cc
list_true (a ∷ xs) e = let p = both (nat_lt 0 (length (a ∷ xs))) (ascends_from a xs) e in (omega arith, ascent_true a xs p.1)

pub list_is : (xs : List ℕ) → 1 ≤ length xs → IsStrictlyIncreasing xs → is_list xs ≡ true
unfolding is_list
list_is [] some h = absurd (omega arith)
list_is (a ∷ xs) some h = rw (lt_true 0 (length (a ∷ xs)) (omega arith), ascent_is a xs h) refl

none_increase : IsStrictlyIncreasing []
none_increase k within = absurd (omega (arith, within))

no_truth : IsTrue false → ⊥
no_truth e = absurd cc

test_by : (xs : List ℕ) (b : Bool) → (IsTrue b ↔ IsStrictlyIncreasing xs) → ascends xs ≡ b
test_by [] true h = refl
test_by [] false h = absurd (no_truth (h.1 none_increase))
test_by (a ∷ xs) true h = ascent_is a xs (h.0 refl)
test_by (a ∷ xs) false h = by (ascends_from a xs) refl
  where
    by : (c : Bool) → ascends_from a xs ≡ c → c ≡ false
    by true e = absurd (no_truth (h.1 (ascent_true a xs e)))
    by false e = refl

-- what the code tests
pub list_test : (xs : List ℕ) (b : Bool) → (IsTrue b ↔ IsStrictlyIncreasing xs) → is_list xs ≡ (nat_lt 0 (length xs) && b)
unfolding is_list
list_test xs b h = rw (test_by xs b h) refl

-- ---- reading

pub numbers_end : (so_far : List ℕ) (ts : List Lexeme) → first_as number_of_token ts ≡ None → numbers_from so_far ts ≡ (so_far, ts)
unfolding numbers_from
numbers_end so_far [] e = refl
numbers_end so_far (t ∷ ts) e = by (number_of_token t) e
  where
    by : (o : Option ℕ) → option_map {U = ℕ × List Lexeme} (λ (a : ℕ). (a, ts)) o ≡ None → option_map_or (λ (n : ℕ). numbers_from (so_far ++ n ∷ []) ts) o (so_far, t ∷ ts) ≡ (so_far, t ∷ ts)
    by None h = refl
    by (Some n) h = absurd cc

pub numbers_step : (so_far : List ℕ) (ts : List Lexeme) (n : ℕ) (rest : List Lexeme) → first_as number_of_token ts ≡ Some (n, rest)
    → numbers_from so_far ts ≡ numbers_from (so_far ++ n ∷ []) rest
unfolding numbers_from
numbers_step so_far ts n rest e = let t = first_as_some number_of_token ts n rest e in rw (t.1, t.2) refl

pub number_first : (n : ℕ) (ts : List Lexeme) → n < 2 ^ 64 → first_as number_of_token (number n ∷ ts) ≡ Some (n, ts)
number_first n ts small = rw (is_number-decimal n small, digits_value-decimal n small) refl

-- the numbers at the front are so many tokens
record TakesNumbers (so_far : List ℕ) (ts : List Lexeme) (r : List ℕ × List Lexeme) : Type 0 where
  more : List ℕ
  numbers : r.0 ≡ so_far ++ more
  parts : ts ≡ map number more ++ r.1
  fit : All Fits more

no_numbers : All Fits []
no_numbers k d within = absurd (omega (arith, within))

numbers_some : (so_far : List ℕ) (ts : List Lexeme) → TakesNumbers so_far ts (numbers_from so_far ts)
unfolding numbers_from
numbers_some so_far [] = record { more = []; numbers = sym (append-nil so_far); parts = refl; fit = no_numbers }
numbers_some so_far (t ∷ ts) = by (λ s. numbers_some s ts) (number_of_token t) refl
  where
    by : ((s : List ℕ) → TakesNumbers s ts (numbers_from s ts)) → (o : Option ℕ) → number_of_token t ≡ o
        → TakesNumbers so_far (t ∷ ts) (option_map_or (λ (n : ℕ). numbers_from (so_far ++ n ∷ []) ts) o (so_far, t ∷ ts))
    by further None e = record { more = []; numbers = sym (append-nil so_far); parts = refl; fit = no_numbers }
    by further (Some n) e =
        let s = number_some t n e in
        let r = further (so_far ++ n ∷ []) in
        record {
          more = n ∷ r.more;
          numbers = r.numbers ∙ append_assoc so_far (n ∷ []) r.more;
          parts = ap (λ (l : Lexeme). l ∷ ts) s.0 ∙ ap (λ (w : List Lexeme). number n ∷ w) r.parts;
          fit = All-cons Fits n r.more s.1 r.fit;
        }

pub list_some : (ts : List Lexeme) (r : List ℕ × List Lexeme) → list_at ts ≡ Some r → (ts ≡ map number r.0 ++ r.1) × AreNumbers r.0
unfolding list_at
list_some ts r e =
    let p = test_some (is_list (numbers_from [] ts).0) (numbers_from [] ts) r e in
    let t = numbers_some [] ts in
    let l = list_true (numbers_from [] ts).0 p.0 in
    let whole : (ts ≡ map number (numbers_from [] ts).0 ++ (numbers_from [] ts).1) × AreNumbers (numbers_from [] ts).0 = (
      t.parts ∙ ap (λ (w : List ℕ). map number w ++ (numbers_from [] ts).1) (sym t.numbers),
      record { some = l.0; ascending = l.1; fit = subst (All Fits) (sym t.numbers) t.fit },
    ) in
    subst (λ (r : List ℕ × List Lexeme). (ts ≡ map number r.0 ++ r.1) × AreNumbers r.0) p.1 whole

numbers_again : (so_far xs : List ℕ) (rest : List Lexeme) → All Fits xs → first_as number_of_token rest ≡ None
    → numbers_from so_far (map number xs ++ rest) ≡ (so_far ++ xs, rest)
numbers_again so_far [] rest fit none = numbers_end so_far rest none ∙ ap (λ (w : List ℕ). (w, rest)) (sym (append-nil so_far))
numbers_again so_far (n ∷ xs) rest fit none =
    let small : n < 2 ^ 64 = fit 0 0 (omega arith) in
    numbers_step so_far (number n ∷ (map number xs ++ rest)) n (map number xs ++ rest) (number_first n (map number xs ++ rest) small)
    ∙ numbers_again (so_far ++ n ∷ []) xs rest (All-tail Fits n xs fit) none
    ∙ ap (λ (w : List ℕ). (w, rest)) (append_assoc so_far (n ∷ []) xs)

pub list_again : (xs : List ℕ) (rest : List Lexeme) → AreNumbers xs → first_as number_of_token rest ≡ None
    → list_at (map number xs ++ rest) ≡ Some (xs, rest)
unfolding list_at
list_again xs rest are none = rw (numbers_again [] xs rest are.fit none, list_is xs are.some are.ascending) refl

pub list_then : (xs : List ℕ) (b : Bool) → (length xs == 0) ≡ false → (IsTrue b ↔ IsStrictlyIncreasing xs) → b ≡ is_list xs
list_then xs b some h =
    let least : 0 < length xs = grind (arith, nat_tests) in
    sym (list_test xs b h ∙ ap (λ (t : Bool). t && b) (lt_true 0 (length xs) least))

pub list_else : (xs : List ℕ) → (length xs == 0) ≡ true → false ≡ is_list xs
unfolding is_list
list_else [] none = refl
list_else (a ∷ xs) none = let h : length (a ∷ xs) ≡ 0 = eqb-true _ _ none in absurd (omega arith)
