-- Bytes that are read as some tokens, whatever stands behind them.
use Rattle.std.proofs.Common.{◌≡◌, ℕ, ◌<◌, ◌^◌, ◌==◌, Bool, true, false, not, ◌&&◌, ◌||◌, List, [], ◌∷◌, ◌++◌, length, Some, decimal, codes, refl, ap, sym, ◌∙◌, subst, append_assoc, arith}
use Rattle.std.specs.Char.{is_ascii_alphabetic, is_ascii_digit}
use Rattle.std.specs.List.{list_all, prefix_len}
use Rattle.std.specs.Str.Parse.{AllDigits}
use Rattle.std.proofs.lemmas.Bool.{false≢true, and_parts, and_from}
use Rattle.std.proofs.lemmas.Bool.Decides.{nat_tests}
use Rattle.std.proofs.lemmas.Fmt.{decimal_is_IsNumeral}
use Rattle.std.proofs.lemmas.Grind.{common_steps}
use Rattle.std.proofs.lemmas.List.{append-nil}
use Rattle.std.proofs.lemmas.List.Folds.{list_all-append}
use Rattle.uts_lex.specs.declared.token.Kind.{Kind}
use Rattle.uts_lex.specs.declared.token.Kind.TheVariants.{Word, Number, Sign}
use Rattle.uts_lex.specs.Lexemes.{Lexeme, lexeme, put_before, is_word_byte, is_one_of, sign_length, lexemes_of}
use Rattle.uts_lex.specs.Spelling.{IsSign, IsSpelling, IsLexeme, EndsBefore}

-- a well spelled token is read again, before the tokens of what stands behind it
abbrev pub TokensAreReadAgain : Type 0
TokensAreReadAgain = (token : Lexeme) (rest : List ℕ) → IsLexeme token → EndsBefore token.kind token.bytes rest
    → lexemes_of (token.bytes ++ rest) ≡ put_before token (lexemes_of rest)

-- what begins so goes on with no token: a letter, a digit, `_` and `=` (61) may
abbrev pub begins_anew : List ℕ → Bool
begins_anew [] = true
begins_anew (byte ∷ bytes) = not (is_word_byte byte || byte == 61)

-- no byte is a line feed
abbrev pub is_one_line : List ℕ → Bool
is_one_line bytes = list_all (λ byte. not (byte == 10)) bytes

-- The bytes stand on one line, and are read as these tokens before what goes on with no token.
pub record Reads (bytes : List ℕ) (ts : List Lexeme) : Type 0 where
  pub again : (rest : List ℕ) (us : List Lexeme) → begins_anew rest ≡ true → lexemes_of rest ≡ Some us → lexemes_of (bytes ++ rest) ≡ Some (ts ++ us)
  pub one_line : is_one_line bytes ≡ true

-- ---- where a token ends

neither : (a b : Bool) → not (a || b) ≡ true → (a ≡ false) × (b ≡ false)
neither true b e = absurd (false≢true e)
neither false true e = absurd (false≢true e)
neither false false e = (refl, refl)

stops : (test : ℕ → Bool) (byte : ℕ) (bytes : List ℕ) → test byte ≡ false → prefix_len test (byte ∷ bytes) ≡ 0
stops test byte bytes e = rw e refl

word_ends : (rest : List ℕ) → begins_anew rest ≡ true → prefix_len is_word_byte rest ≡ 0
word_ends [] e = refl
word_ends (byte ∷ bytes) e = stops is_word_byte byte bytes (neither (is_word_byte byte) (byte == 61) e).0

no_digit : (byte : ℕ) → is_word_byte byte ≡ false → is_ascii_digit byte ≡ false
no_digit byte e = grind (arith, nat_tests)

number_ends : (rest : List ℕ) → begins_anew rest ≡ true → prefix_len is_ascii_digit rest ≡ 0
number_ends [] e = refl
number_ends (byte ∷ bytes) e = stops is_ascii_digit byte bytes (no_digit byte (neither (is_word_byte byte) (byte == 61) e).0)

and_false : (a b : Bool) → b ≡ false → (a && b) ≡ false
and_false true b e = e
and_false false b e = refl

sign_ends : (bytes rest : List ℕ) → IsSign bytes → begins_anew rest ≡ true → sign_length (bytes ++ rest) ≡ length bytes
sign_ends [] rest is e = absurd is
sign_ends (byte ∷ []) [] is e = rw is refl
sign_ends (byte ∷ []) (next ∷ rest) is e =
    let no = and_false (is_one_of (codes "<>=!") byte) (next == 61) (neither (is_word_byte next) (next == 61) e).1 in
    rw (no, is) refl
sign_ends (byte ∷ next ∷ []) rest is e = rw (is.1, is.0) refl
sign_ends (byte ∷ next ∷ other ∷ bytes) rest is e = absurd is

ends_before : (kind : Kind) (bytes rest : List ℕ) → IsSpelling kind bytes → begins_anew rest ≡ true → EndsBefore kind bytes rest
ends_before Word bytes rest is e = word_ends rest e
ends_before Number bytes rest is e = number_ends rest e
ends_before Sign bytes rest is e = sign_ends bytes rest is e

begins-append : (bytes rest : List ℕ) → begins_anew bytes ≡ true → begins_anew rest ≡ true → begins_anew (bytes ++ rest) ≡ true
begins-append [] rest e f = f
begins-append (byte ∷ bytes) rest e f = e

-- ---- a token has no line feed

pass_too : (p q : ℕ → Bool) → ((n : ℕ) → p n ≡ true → q n ≡ true) → (ns : List ℕ) → list_all p ns ≡ true → list_all q ns ≡ true
pass_too p q more [] e = refl
pass_too p q more (n ∷ ns) e = let both = and_parts (p n) (list_all p ns) e in and_from _ _ (more n both.0) (pass_too p q more ns both.1)

letter_no_feed : (byte : ℕ) → is_ascii_alphabetic byte ≡ true → not (byte == 10) ≡ true
letter_no_feed byte e = grind (arith, nat_tests)

word_no_feed : (byte : ℕ) → is_word_byte byte ≡ true → not (byte == 10) ≡ true
word_no_feed byte e = grind (arith, nat_tests)

digits_no_feed : (digits : List ℕ) → AllDigits 10 digits → is_one_line digits ≡ true
digits_no_feed [] all = refl
digits_no_feed (digit ∷ digits) all =
    let here : not (digit == 10) ≡ true = grind (arith, nat_tests, common_steps, all.0) in
    and_from _ _ here (digits_no_feed digits all.1)

sign_no_feed : (byte : ℕ) → is_one_of (codes "+-*/%<>=()[],.") byte ≡ true → not (byte == 10) ≡ true
sign_no_feed byte e = grind (arith, nat_tests)

mark_no_feed : (byte : ℕ) → is_one_of (codes "<>=!") byte ≡ true → not (byte == 10) ≡ true
mark_no_feed byte e = grind (arith, nat_tests)

decimal_no_feed : (n : ℕ) → n < 2 ^ 64 → is_one_line (decimal n) ≡ true
decimal_no_feed n fits = digits_no_feed (decimal n) (decimal_is_IsNumeral n fits).0.1

token_no_feed : (kind : Kind) (bytes : List ℕ) → IsSpelling kind bytes → is_one_line bytes ≡ true
token_no_feed Word [] is = absurd is
token_no_feed Word (first ∷ bytes) is =
    and_from _ _ (letter_no_feed first is.0) (pass_too is_word_byte (λ byte. not (byte == 10)) word_no_feed bytes is.1)
token_no_feed Number bytes is = subst (λ (b : List ℕ). is_one_line b ≡ true) (sym is.2) (decimal_no_feed is.0 is.1)
token_no_feed Sign [] is = absurd is
token_no_feed Sign (byte ∷ []) is = and_from _ _ (sign_no_feed byte is) refl
token_no_feed Sign (byte ∷ next ∷ []) is =
    let second : not (next == 10) ≡ true = rw is.1 refl in
    and_from _ _ (mark_no_feed byte is.0) (and_from _ _ second refl)
token_no_feed Sign (byte ∷ next ∷ other ∷ bytes) is = absurd is

one_line-append : (bytes more : List ℕ) → is_one_line bytes ≡ true → is_one_line more ≡ true → is_one_line (bytes ++ more) ≡ true
one_line-append bytes more e f = list_all-append (λ byte. not (byte == 10)) bytes more ∙ and_from _ _ e f

-- ---- one behind another

pub reads_nothing : Reads [] []
reads_nothing = record { again = λ rest us e is. is; one_line = refl }

pub reads_space : {bytes : List ℕ} {ts : List Lexeme} → Reads bytes ts → Reads (32 ∷ bytes) ts
reads_space r = record { again = r.again; one_line = r.one_line }

pub reads_both : {bytes more : List ℕ} {ts us : List Lexeme} → Reads bytes ts → begins_anew more ≡ true → Reads more us → Reads (bytes ++ more) (ts ++ us)
reads_both {bytes} {more} {ts} {us} r begins s = record {
  again = λ rest vs e is. ap lexemes_of (append_assoc bytes more rest)
      ∙ r.again (more ++ rest) (us ++ vs) (begins-append more rest begins e) (s.again rest vs e is)
      ∙ ap (λ (ws : List Lexeme). Some ws) (sym (append_assoc ts us vs));
  one_line = one_line-append bytes more r.one_line s.one_line;
}

module _ (law : TokensAreReadAgain) where
  -- a token before what goes on with none
  pub reads_token : (token : Lexeme) → IsLexeme token → {more : List ℕ} {us : List Lexeme} → begins_anew more ≡ true → Reads more us → Reads (token.bytes ++ more) (token ∷ us)
  reads_token token is {more} {us} begins s = record {
    again = λ rest vs e read. ap lexemes_of (append_assoc token.bytes more rest)
        ∙ law token (more ++ rest) is (ends_before token.kind token.bytes (more ++ rest) is (begins-append more rest begins e))
        ∙ ap (put_before token) (s.again rest vs e read);
    one_line = one_line-append token.bytes more (token_no_feed token.kind token.bytes is) s.one_line;
  }

  -- a sign with which no other begins, before anything
  pub reads_sign : (byte : ℕ) → is_one_of (codes "+-*/%<>=()[],.") byte ≡ true → is_one_of (codes "<>=!") byte ≡ false
      → {more : List ℕ} {us : List Lexeme} → Reads more us → Reads (byte ∷ more) (lexeme Sign (byte ∷ []) ∷ us)
  reads_sign byte is alone {more} {us} s = record {
    again = λ rest vs e read. law (lexeme Sign (byte ∷ [])) (more ++ rest) is (ends (more ++ rest))
        ∙ ap (put_before (lexeme Sign (byte ∷ []))) (s.again rest vs e read);
    one_line = and_from _ _ (sign_no_feed byte is) s.one_line;
  }
    where
      ends : (rest : List ℕ) → sign_length (byte ∷ rest) ≡ 1
      ends [] = rw is refl
      ends (next ∷ rest) = rw (alone, is) refl

  -- a token alone
  pub reads_one : (token : Lexeme) → IsLexeme token → Reads token.bytes (token ∷ [])
  reads_one token is = subst (λ (bytes : List ℕ). Reads bytes (token ∷ [])) (append-nil token.bytes) (reads_token token is refl reads_nothing)
