-- A token that is well spelled is read again, whatever stands behind it that does not go on with it.
use Rattle.std.proofs.Common.{◌≡◌, ℕ, suc, ◌-◌, ◌^◌, ◌<◌, ◌==◌, nat_lt, Bool, true, false, not, ◌&&◌, ◌||◌, List, [], ◌∷◌, ◌++◌, length, take, drop, take_while, Some, decimal, codes, refl, ap, sym, ◌∙◌, subst, arith}
use Rattle.std.specs.Char.{is_ascii_alphabetic, is_ascii_digit}
use Rattle.std.specs.List.{list_all, prefix_len}
use Rattle.std.specs.Option.{option_map}
use Rattle.std.specs.Str.Parse.{AllDigits}
use Rattle.std.proofs.lemmas.Bool.{false≢true}
use Rattle.std.proofs.lemmas.Bool.Decides.{nat_tests}
use Rattle.std.proofs.lemmas.Fmt.{decimal_is_IsNumeral}
use Rattle.std.proofs.lemmas.Grind.{common_steps}
use Rattle.uts_lex.specs.declared.token.Kind.{Kind}
use Rattle.uts_lex.specs.declared.token.Kind.TheVariants.{Word, Number, Sign}
use Rattle.uts_lex.specs.Lexemes.{Lexeme, lexeme, is_blank, begins_comment, is_word_byte, fits_word, is_one_of, sign_length, front_lexeme, lexemes_of}
use Rattle.uts_lex.specs.Spelling.{IsWord, IsSpelling, IsLexeme, EndsBefore}
use Rattle.uts_lex.proofs.Fronts.{tokens_behind}
use Rattle.uts_lex.proofs.Runs.{number_spelled}
use Rattle.uts_lex.proofs.Spellings.{run_goes_on, letter_in_word}

pub both_pass : (a b : Bool) → (a && b) ≡ true → (a ≡ true) × (b ≡ true)
both_pass true b is = (refl, is)
both_pass false b is = absurd (false≢true is)

-- a run ends where the bytes behind it do not go on with it
pub run_ends : (test : ℕ → Bool) (run rest : List ℕ) → list_all test run ≡ true → prefix_len test rest ≡ 0 → take_while test (run ++ rest) ≡ run
run_ends test [] rest passes stop = rw stop refl
run_ends test (byte ∷ run) rest passes stop =
    let both = both_pass (test byte) (list_all test run) passes in
    run_goes_on test byte (run ++ rest) both.0 ∙ ap (λ more. byte ∷ more) (run_ends test run rest both.1 stop)

-- what holds of each of some bytes holds of one of them
pub holds_of_one : (test : ℕ → Bool) (bytes : List ℕ) (byte : ℕ) → list_all test bytes ≡ true → is_one_of bytes byte ≡ true → test byte ≡ true
holds_of_one test [] byte all one = absurd (false≢true one)
holds_of_one test (other ∷ bytes) byte all one = by (byte == other) refl one (holds_of_one test bytes byte both.1)
  where
    both : (test other ≡ true) × (list_all test bytes ≡ true)
    both = both_pass (test other) (list_all test bytes) all

    by : (same : Bool) → (byte == other) ≡ same → (same || is_one_of bytes byte) ≡ true → (is_one_of bytes byte ≡ true → test byte ≡ true) → test byte ≡ true
    by true same one more = let is : byte ≡ other = grind (arith, nat_tests) in rw is both.0
    by false same one more = more one

-- where the first byte of a token is neither a blank nor `#`, it is the first token
first_read : (token : Lexeme) (first : ℕ) (bytes rest : List ℕ) → token.bytes ≡ first ∷ bytes → is_blank first ≡ false → begins_comment first ≡ false
    → front_lexeme (first ∷ bytes ++ rest) ≡ Some token → lexemes_of (first ∷ bytes ++ rest) ≡ option_map (λ more. token ∷ more) (lexemes_of rest)
first_read token first bytes rest is blank comment front =
    let size : length token.bytes - 1 ≡ length bytes = rw is (omega arith) in
    let behind : drop (length bytes) (bytes ++ rest) ≡ rest = grind (arith, common_steps) in
    rw (blank, comment, front, size, tokens_behind (bytes ++ rest) (length bytes), behind) refl

word_read : (first : ℕ) (bytes rest : List ℕ) → IsWord (first ∷ bytes) → prefix_len is_word_byte rest ≡ 0
    → lexemes_of (first ∷ bytes ++ rest) ≡ option_map (λ more. lexeme Word (first ∷ bytes) ∷ more) (lexemes_of rest)
word_read first bytes rest word stop =
    let letter = word.0 in
    let blank : is_blank first ≡ false = grind (arith, nat_tests) in
    let comment : begins_comment first ≡ false = grind (arith, nat_tests) in
    let passes : list_all is_word_byte (first ∷ bytes) ≡ true = rw (letter_in_word first letter) word.1 in
    let run = run_ends is_word_byte (first ∷ bytes) rest passes stop in
    let fits : fits_word (first ∷ bytes) ≡ true = grind (arith, nat_tests, word.2) in
    first_read (lexeme Word (first ∷ bytes)) first bytes rest refl blank comment (rw (letter, run, fits) refl)

pub digits_pass : (digits : List ℕ) → AllDigits 10 digits → list_all is_ascii_digit digits ≡ true
digits_pass [] all = refl
digits_pass (digit ∷ digits) all = let passes : is_ascii_digit digit ≡ true = grind (arith, nat_tests, all.0) in rw passes (digits_pass digits all.1)

number_read : (first : ℕ) (bytes rest : List ℕ) (n : ℕ) → n < 2 ^ 64 → first ∷ bytes ≡ decimal n → prefix_len is_ascii_digit rest ≡ 0
    → lexemes_of (first ∷ bytes ++ rest) ≡ option_map (λ more. lexeme Number (first ∷ bytes) ∷ more) (lexemes_of rest)
number_read first bytes rest n small is stop =
    let passes = digits_pass (first ∷ bytes) (subst (AllDigits 10) (sym is) (decimal_is_IsNumeral n small).0.1) in
    let digit = (both_pass (is_ascii_digit first) (list_all is_ascii_digit bytes) passes).0 in
    let letter : is_ascii_alphabetic first ≡ false = grind (arith, nat_tests) in
    let blank : is_blank first ≡ false = grind (arith, nat_tests) in
    let comment : begins_comment first ≡ false = grind (arith, nat_tests) in
    let run = run_ends is_ascii_digit (first ∷ bytes) rest passes stop in
    first_read (lexeme Number (first ∷ bytes)) first bytes rest refl blank comment (rw (letter, run, digit, number_spelled (first ∷ bytes) n small is) refl)

-- no letter, no digit, no blank and no `#`
is_other : ℕ → Bool
is_other byte = not (is_ascii_alphabetic byte || is_ascii_digit byte) && not (is_blank byte || begins_comment byte)

sign_read : (first : ℕ) (bytes rest : List ℕ) → is_other first ≡ true → sign_length (first ∷ bytes ++ rest) ≡ suc (length bytes)
    → lexemes_of (first ∷ bytes ++ rest) ≡ option_map (λ more. lexeme Sign (first ∷ bytes) ∷ more) (lexemes_of rest)
unfolding is_other
sign_read first bytes rest other stop =
    let letter : is_ascii_alphabetic first ≡ false = grind (arith, nat_tests) in
    let digit : is_ascii_digit first ≡ false = grind (arith, nat_tests) in
    let blank : is_blank first ≡ false = grind (arith, nat_tests) in
    let comment : begins_comment first ≡ false = grind (arith, nat_tests) in
    let sign : take (suc (length bytes)) (first ∷ bytes ++ rest) ≡ first ∷ bytes = grind (arith, common_steps) in
    let some : nat_lt 0 (length (take (suc (length bytes)) (first ∷ bytes ++ rest))) ≡ true = grind (arith, nat_tests) in
    first_read (lexeme Sign (first ∷ bytes)) first bytes rest refl blank comment (rw (letter, digit, stop, some, sign) refl)

one_byte_other : (byte : ℕ) → is_one_of (codes "+-*/%<>=()[],.") byte ≡ true → is_other byte ≡ true
unfolding is_other
one_byte_other byte one = holds_of_one is_other (codes "+-*/%<>=()[],.") byte refl one

two_bytes_other : (byte : ℕ) → is_one_of (codes "<>=!") byte ≡ true → is_other byte ≡ true
unfolding is_other
two_bytes_other byte one = holds_of_one is_other (codes "<>=!") byte refl one

read_again : (kind : Kind) (bytes rest : List ℕ) → IsSpelling kind bytes → EndsBefore kind bytes rest
    → lexemes_of (bytes ++ rest) ≡ option_map (λ more. lexeme kind bytes ∷ more) (lexemes_of rest)
read_again Word [] rest spelled ends = absurd spelled
read_again Word (first ∷ bytes) rest spelled ends = word_read first bytes rest spelled ends
read_again Number [] rest spelled ends =
    absurd (omega (arith, ap length spelled.2, (decimal_is_IsNumeral spelled.0 spelled.1).0.0))
read_again Number (first ∷ bytes) rest spelled ends = number_read first bytes rest spelled.0 spelled.1 spelled.2 ends
read_again Sign [] rest spelled ends = absurd spelled
read_again Sign (byte ∷ []) rest spelled ends = sign_read byte [] rest (one_byte_other byte spelled) ends
read_again Sign (byte ∷ next ∷ []) rest spelled ends = sign_read byte (next ∷ []) rest (two_bytes_other byte spelled.0) ends
read_again Sign (byte ∷ next ∷ other ∷ bytes) rest spelled ends = absurd spelled

pub token_read : (token : Lexeme) (rest : List ℕ) → IsLexeme token → EndsBefore token.kind token.bytes rest
    → lexemes_of (token.bytes ++ rest) ≡ option_map (λ more. token ∷ more) (lexemes_of rest)
token_read token rest = read_again token.kind token.bytes rest
