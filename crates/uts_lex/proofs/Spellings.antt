-- Each token of a line is well spelled.
use Rattle.std.proofs.Common.{◌≡◌, ℕ, zero, suc, ◌-◌, ◌==◌, nat_lt, Bool, true, false, cond, ◌&&◌, List, [], ◌∷◌, length, take, take_while, Option, Some, None, option_and_then, decimal, codes, All, refl, ap, sym, ◌∙◌, subst, arith}
use Rattle.std.specs.Char.{is_ascii_alphabetic, is_ascii_digit}
use Rattle.std.specs.List.{list_all, AllByRecursion}
use Rattle.std.specs.Option.{option_map}
use Rattle.std.specs.Str.{bytes_eq}
use Rattle.std.specs.Str.Parse.{digits_value}
use Rattle.std.proofs.lemmas.Bool.{false≢true}
use Rattle.std.proofs.lemmas.Bool.Decides.{nat_tests}
use Rattle.std.proofs.lemmas.List.Elements.{All-from_recursion}
use Rattle.std.proofs.lemmas.List.Sums.{take_while-cons}
use Rattle.std.proofs.lemmas.Option.{cond_some}
use Rattle.std.proofs.lemmas.Slice.Eq.{bytes_eq-Decides}
use Rattle.uts_lex.specs.declared.token.Kind.TheVariants.{Word, Number, Sign}
use Rattle.uts_lex.specs.Lexemes.{Lexeme, lexeme, is_blank, begins_comment, is_word_byte, fits_word, is_number, is_one_of, sign_length, front_lexeme, lexemes_behind, lexemes_of}
use Rattle.uts_lex.specs.Spelling.{IsWord, IsNumber, IsSign, IsLexeme}

-- the run at the front goes on with a byte that passes the test
pub run_goes_on : (test : ℕ → Bool) (byte : ℕ) (bytes : List ℕ) → test byte ≡ true → take_while test (byte ∷ bytes) ≡ byte ∷ take_while test bytes
run_goes_on test byte bytes passes = take_while-cons test byte bytes ∙ ap (λ go. cond go (byte ∷ take_while test bytes) []) passes

pub run_stops : (test : ℕ → Bool) (byte : ℕ) (bytes : List ℕ) → test byte ≡ false → take_while test (byte ∷ bytes) ≡ []
run_stops test byte bytes fails = take_while-cons test byte bytes ∙ ap (λ go. cond go (byte ∷ take_while test bytes) []) fails

-- each byte of the run passes the test
pub run_passes : (test : ℕ → Bool) (bytes : List ℕ) → list_all test (take_while test bytes) ≡ true
run_passes test [] = refl
run_passes test (byte ∷ bytes) = by (test byte) refl (run_passes test bytes)
  where
    by : (go : Bool) → test byte ≡ go → list_all test (take_while test bytes) ≡ true → list_all test (take_while test (byte ∷ bytes)) ≡ true
    by true go more = ap (list_all test) (run_goes_on test byte bytes go) ∙ ap (λ passes. passes && list_all test (take_while test bytes)) go ∙ more
    by false stop more = ap (list_all test) (run_stops test byte bytes stop)

pub letter_in_word : (byte : ℕ) → is_ascii_alphabetic byte ≡ true → is_word_byte byte ≡ true
letter_in_word byte letter = grind (arith, nat_tests)

word_spelled : (byte : ℕ) (bytes : List ℕ) → is_ascii_alphabetic byte ≡ true → fits_word (take_while is_word_byte (byte ∷ bytes)) ≡ true → IsWord (take_while is_word_byte (byte ∷ bytes))
word_spelled byte bytes letter fits =
    let run = run_goes_on is_word_byte byte bytes (letter_in_word byte letter) in
    let short = subst (λ word. fits_word word ≡ true) run fits in
    subst IsWord (sym run) (letter, run_passes is_word_byte bytes, grind (arith, nat_tests))

number_read : (run : List ℕ) → is_number run ≡ true → IsNumber run
number_read run number =
    let same : bytes_eq run (decimal (digits_value 10 run)) ≡ true = grind (arith, nat_tests) in
    (digits_value 10 run, grind (arith, nat_tests), (bytes_eq-Decides run (decimal (digits_value 10 run))).0 same)

one_byte : (byte : ℕ) (bytes : List ℕ) (sign : Bool) → is_one_of (codes "+-*/%<>=()[],.") byte ≡ sign → nat_lt 0 (length (take (cond sign 1 0) (byte ∷ bytes))) ≡ true
    → IsSign (take (cond sign 1 0) (byte ∷ bytes))
one_byte byte bytes true is some = is
one_byte byte bytes false is some = absurd (false≢true some)

two_bytes : (byte next : ℕ) (bytes : List ℕ) (two : Bool) → (is_one_of (codes "<>=!") byte && next == 61) ≡ two
    → nat_lt 0 (length (take (cond two 2 (cond (is_one_of (codes "+-*/%<>=()[],.") byte) 1 0)) (byte ∷ next ∷ bytes))) ≡ true
    → IsSign (take (cond two 2 (cond (is_one_of (codes "+-*/%<>=()[],.") byte) 1 0)) (byte ∷ next ∷ bytes))
two_bytes byte next bytes true is some = both (is_one_of (codes "<>=!") byte) is
  where
    both : (first : Bool) → (first && next == 61) ≡ true → (first ≡ true) × (next ≡ 61)
    both true is = (refl, grind (arith, nat_tests))
    both false is = absurd (false≢true is)
two_bytes byte next bytes false is some = one_byte byte (next ∷ bytes) (is_one_of (codes "+-*/%<>=()[],.") byte) refl some

sign_spelled : (byte : ℕ) (bytes : List ℕ) → nat_lt 0 (length (take (sign_length (byte ∷ bytes)) (byte ∷ bytes))) ≡ true → IsSign (take (sign_length (byte ∷ bytes)) (byte ∷ bytes))
sign_spelled byte [] some = one_byte byte [] (is_one_of (codes "+-*/%<>=()[],.") byte) refl some
sign_spelled byte (next ∷ bytes) some = two_bytes byte next bytes (is_one_of (codes "<>=!") byte && next == 61) refl some

pub front_spelled : (bytes : List ℕ) (first : Lexeme) → front_lexeme bytes ≡ Some first → IsLexeme first
front_spelled [] first front = cc
front_spelled (byte ∷ bytes) first front = by (is_ascii_alphabetic byte) refl (is_ascii_digit byte) refl front
  where
    by : (letter : Bool) → is_ascii_alphabetic byte ≡ letter → (digit : Bool) → is_ascii_digit byte ≡ digit
        → cond letter (cond (fits_word (take_while is_word_byte (byte ∷ bytes))) (Some (lexeme Word (take_while is_word_byte (byte ∷ bytes)))) None)
        (cond digit (cond (is_number (take_while is_ascii_digit (byte ∷ bytes))) (Some (lexeme Number (take_while is_ascii_digit (byte ∷ bytes)))) None)
        (cond (nat_lt 0 (length (take (sign_length (byte ∷ bytes)) (byte ∷ bytes)))) (Some (lexeme Sign (take (sign_length (byte ∷ bytes)) (byte ∷ bytes)))) None)) ≡ Some first
        → IsLexeme first
    by true letter digit _ front = let is = cond_some _ _ _ front in subst IsLexeme is.1 (word_spelled byte bytes letter is.0)
    by false _ true digit front = let is = cond_some _ _ _ front in subst IsLexeme is.1 (number_read (take_while is_ascii_digit (byte ∷ bytes)) is.0)
    by false _ false _ front = let is = cond_some _ _ _ front in subst IsLexeme is.1 (sign_spelled byte bytes is.0)

pub put_first : (first : Lexeme) (o : Option (List Lexeme)) (lexemes : List Lexeme) → option_map (λ more. first ∷ more) o ≡ Some lexemes
    → (more : List Lexeme) × (o ≡ Some more) × (first ∷ more ≡ lexemes)
put_first first None lexemes is = cc
put_first first (Some more) lexemes is = (more, refl, cc)

all_spelled : (bytes : List ℕ) (n : ℕ) (lexemes : List Lexeme) → lexemes_behind bytes n ≡ Some lexemes → AllByRecursion IsLexeme lexemes
all_spelled [] n lexemes is = let none : [] ≡ lexemes = cc in subst (AllByRecursion IsLexeme) none tt
all_spelled (byte ∷ bytes) (suc n) lexemes is = all_spelled bytes n lexemes is
all_spelled (byte ∷ bytes) zero lexemes is = by (is_blank byte) (begins_comment byte) (front_lexeme (byte ∷ bytes)) refl is (all_spelled bytes)
  where
    by : (blank comment : Bool) (front : Option Lexeme) → front_lexeme (byte ∷ bytes) ≡ front
        → cond blank (lexemes_behind bytes 0) (cond comment (Some []) (option_and_then (λ first. option_map (λ more. first ∷ more) (lexemes_behind bytes (length first.bytes - 1))) front)) ≡ Some lexemes
        → ((n : ℕ) (more : List Lexeme) → lexemes_behind bytes n ≡ Some more → AllByRecursion IsLexeme more) → AllByRecursion IsLexeme lexemes
    by true comment front _ is rest = rest 0 lexemes is
    by false true front _ is rest = let none : [] ≡ lexemes = cc in subst (AllByRecursion IsLexeme) none tt
    by false false None _ is rest = cc
    by false false (Some first) front is rest =
        let more = put_first first (lexemes_behind bytes (length first.bytes - 1)) lexemes is in
        subst (AllByRecursion IsLexeme) more.2 (front_spelled (byte ∷ bytes) first front, rest (length first.bytes - 1) more.0 more.1)

pub tokens_spelled : (line : List ℕ) (lexemes : List Lexeme) → lexemes_of line ≡ Some lexemes → All IsLexeme lexemes
tokens_spelled line lexemes is = All-from_recursion IsLexeme lexemes (all_spelled line 0 lexemes is)
