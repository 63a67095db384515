-- The token at the front is the longest one that is well spelled there.
use Rattle.std.proofs.Common.{◌≡◌, ℕ, ◌<◌, ◌≤◌, Bool, true, false, cond, not, ◌||◌, List, [], ◌∷◌, ◌++◌, length, take, drop, take_while, Some, codes, refl, sym, subst, arith}
use Rattle.std.specs.Char.{is_ascii_alphabetic, is_ascii_digit}
use Rattle.std.specs.List.{list_all}
use Rattle.std.specs.Str.Parse.{AllDigits}
use Rattle.std.proofs.lemmas.Bool.{false≢true}
use Rattle.std.proofs.lemmas.Bool.Decides.{nat_tests}
use Rattle.std.proofs.lemmas.Fmt.{decimal_is_IsNumeral}
use Rattle.std.proofs.lemmas.Option.{cond_some}
use Rattle.uts_lex.specs.declared.token.Kind.{Kind}
use Rattle.uts_lex.specs.declared.token.Kind.TheVariants.{Word, Number, Sign}
use Rattle.uts_lex.specs.Lexemes.{Lexeme, is_word_byte, is_one_of, sign_length, front_lexeme}
use Rattle.uts_lex.specs.Spelling.{IsSpelling, IsLongest}
use Rattle.uts_lex.proofs.Coverings.{front_and_rest}
use Rattle.uts_lex.proofs.Readings.{both_pass, holds_of_one, digits_pass}
use Rattle.uts_lex.proofs.Spellings.{run_goes_on, letter_in_word, front_spelled}

-- the run at the front has at least the bytes that are known to pass
run_at_least : (test : ℕ → Bool) (run rest : List ℕ) → list_all test run ≡ true → length run ≤ length (take_while test (run ++ rest))
run_at_least test [] rest passes = omega arith
run_at_least test (byte ∷ run) rest passes =
    let both = both_pass (test byte) (list_all test run) passes in
    rw (run_goes_on test byte (run ++ rest) both.0) (omega (arith, run_at_least test run rest both.1))

is_mark : ℕ → Bool
is_mark byte = not (is_ascii_alphabetic byte || is_ascii_digit byte)

mark_is_no_letter : (byte : ℕ) → is_mark byte ≡ true → (is_ascii_alphabetic byte ≡ false) × (is_ascii_digit byte ≡ false)
unfolding is_mark
mark_is_no_letter byte mark = (grind (arith, nat_tests), grind (arith, nat_tests))

one_byte_mark : (byte : ℕ) → is_one_of (codes "+-*/%<>=()[],.") byte ≡ true → is_mark byte ≡ true
unfolding is_mark
one_byte_mark byte one = holds_of_one is_mark (codes "+-*/%<>=()[],.") byte refl one

two_bytes_mark : (byte : ℕ) → is_one_of (codes "<>=!") byte ≡ true → is_mark byte ≡ true
unfolding is_mark
two_bytes_mark byte one = holds_of_one is_mark (codes "<>=!") byte refl one

no_longer_word : (first : ℕ) (bytes rest : List ℕ) (token : Lexeme) → is_ascii_alphabetic first ≡ true → list_all is_word_byte bytes ≡ true
    → front_lexeme (first ∷ bytes ++ rest) ≡ Some token → length (first ∷ bytes) ≤ length token.bytes
no_longer_word first bytes rest token letter more front =
    let is = cond_some _ _ _ (rw letter at front) in
    let passes : list_all is_word_byte (first ∷ bytes) ≡ true = rw (letter_in_word first letter) more in
    subst (λ (x : Lexeme). length (first ∷ bytes) ≤ length x.bytes) is.1 (run_at_least is_word_byte (first ∷ bytes) rest passes)

first_chosen : {A : Type 0} (b : Bool) (x y z : A) → b ≡ true → cond b x y ≡ z → x ≡ z
first_chosen true x y z _ is = is
first_chosen false x y z b is = absurd (false≢true b)

second_chosen : {A : Type 0} (b : Bool) (x y z : A) → b ≡ false → cond b x y ≡ z → y ≡ z
second_chosen true x y z b is = absurd (false≢true (sym b))
second_chosen false x y z _ is = is

no_longer_number : (first : ℕ) (bytes rest : List ℕ) (token : Lexeme) → list_all is_ascii_digit (first ∷ bytes) ≡ true
    → front_lexeme (first ∷ bytes ++ rest) ≡ Some token → length (first ∷ bytes) ≤ length token.bytes
no_longer_number first bytes rest token passes front =
    let digit = (both_pass (is_ascii_digit first) (list_all is_ascii_digit bytes) passes).0 in
    let letter : is_ascii_alphabetic first ≡ false = grind (arith, nat_tests) in
    let is = cond_some _ _ _ (first_chosen _ _ _ _ digit (second_chosen _ _ _ _ letter front)) in
    subst (λ (x : Lexeme). length (first ∷ bytes) ≤ length x.bytes) is.1 (run_at_least is_ascii_digit (first ∷ bytes) rest passes)

no_longer_sign : (first : ℕ) (bytes rest : List ℕ) (token : Lexeme) → is_mark first ≡ true → (0 < length (take (sign_length (first ∷ bytes ++ rest)) (first ∷ bytes ++ rest)) → length (first ∷ bytes) ≤ length (take (sign_length (first ∷ bytes ++ rest)) (first ∷ bytes ++ rest)))
    → front_lexeme (first ∷ bytes ++ rest) ≡ Some token → length (first ∷ bytes) ≤ length token.bytes
no_longer_sign first bytes rest token mark long front =
    let others = mark_is_no_letter first mark in
    let is = cond_some _ _ _ (rw (others.0, others.1) at front) in
    let some : 0 < length (take (sign_length (first ∷ bytes ++ rest)) (first ∷ bytes ++ rest)) = grind (arith, nat_tests, is.0) in
    subst (λ (x : Lexeme). length (first ∷ bytes) ≤ length x.bytes) is.1 (long some)

no_longer : (kind : Kind) (bytes rest : List ℕ) (token : Lexeme) → IsSpelling kind bytes → front_lexeme (bytes ++ rest) ≡ Some token → length bytes ≤ length token.bytes
no_longer kind [] rest token spelled front = omega arith
no_longer Word (first ∷ bytes) rest token spelled front = no_longer_word first bytes rest token spelled.0 spelled.1 front
no_longer Number (first ∷ bytes) rest token spelled front =
    no_longer_number first bytes rest token (digits_pass (first ∷ bytes) (subst (AllDigits 10) (sym spelled.2) (decimal_is_IsNumeral spelled.0 spelled.1).0.1)) front
no_longer Sign (byte ∷ []) rest token spelled front = no_longer_sign byte [] rest token (one_byte_mark byte spelled) (λ some. some) front
no_longer Sign (byte ∷ next ∷ []) rest token spelled front =
    no_longer_sign byte (next ∷ []) rest token (two_bytes_mark byte spelled.0) (λ some. rw (spelled.0, spelled.1) (omega arith)) front
no_longer Sign (byte ∷ next ∷ other ∷ bytes) rest token spelled front = absurd spelled

pub longest_first : (bytes : List ℕ) (token : Lexeme) → front_lexeme bytes ≡ Some token → IsLongest token bytes
longest_first bytes token front = record {
  spelled = front_spelled bytes token front;
  at_front = (drop (length token.bytes) bytes, front_and_rest bytes token front);
  longest = λ other rest spelled is. no_longer other.kind other.bytes rest token spelled (subst (λ bytes. front_lexeme bytes ≡ Some token) is front);
}
