-- The tokens of a line hold its visible bytes.
use Rattle.std.proofs.Common.{◌≡◌, ℕ, zero, suc, ◌-◌, ◌<◌, nat_lt, Bool, true, false, cond, not, ◌&&◌, List, [], ◌∷◌, ◌++◌, length, take, drop, take_while, Option, Some, None, option_and_then, decimal, codes, refl, ap, sym, ◌∙◌, arith}
use Rattle.std.specs.Char.{is_ascii_alphabetic, is_ascii_digit}
use Rattle.std.specs.List.{list_all, prefix_len, flat_map}
use Rattle.std.specs.Option.{option_map}
use Rattle.std.proofs.lemmas.Bool.Decides.{nat_tests}
use Rattle.std.proofs.lemmas.Fmt.{decimal_is_IsNumeral}
use Rattle.std.proofs.lemmas.Option.{cond_some}
use Rattle.uts_lex.specs.declared.token.Kind.{Kind}
use Rattle.uts_lex.specs.declared.token.Kind.TheVariants.{Word, Number, Sign}
use Rattle.uts_lex.specs.Lexemes.{Lexeme, lexeme, is_blank, begins_comment, is_word_byte, fits_word, is_number, sign_length, front_lexeme, lexemes_behind, lexemes_of}
use Rattle.uts_lex.specs.Spelling.{IsSpelling, visible_bytes}
use Rattle.uts_lex.proofs.Readings.{both_pass, holds_of_one, digits_pass}
use Rattle.uts_lex.proofs.Spellings.{run_goes_on, run_stops, letter_in_word, front_spelled, put_first}

-- the token at the front is a front of the bytes
pub front_is_cut : (bytes : List ℕ) (first : Lexeme) → front_lexeme bytes ≡ Some first → (n : ℕ) × (first.bytes ≡ take n bytes)
front_is_cut [] first front = cc
front_is_cut (byte ∷ bytes) first front = by (is_ascii_alphabetic byte) (is_ascii_digit byte) front
  where
    by : (letter digit : Bool)
        → cond letter (cond (fits_word (take_while is_word_byte (byte ∷ bytes))) (Some (lexeme Word (take_while is_word_byte (byte ∷ bytes)))) None)
        (cond digit (cond (is_number (take_while is_ascii_digit (byte ∷ bytes))) (Some (lexeme Number (take_while is_ascii_digit (byte ∷ bytes)))) None)
        (cond (nat_lt 0 (length (take (sign_length (byte ∷ bytes)) (byte ∷ bytes)))) (Some (lexeme Sign (take (sign_length (byte ∷ bytes)) (byte ∷ bytes)))) None)) ≡ Some first
        → (n : ℕ) × (first.bytes ≡ take n (byte ∷ bytes))
    by true _ front = (prefix_len is_word_byte (byte ∷ bytes), ap (λ (x : Lexeme). x.bytes) (sym (cond_some _ _ _ front).1))
    by false true front = (prefix_len is_ascii_digit (byte ∷ bytes), ap (λ (x : Lexeme). x.bytes) (sym (cond_some _ _ _ front).1))
    by false false front = (sign_length (byte ∷ bytes), ap (λ (x : Lexeme). x.bytes) (sym (cond_some _ _ _ front).1))

-- a front, and what stands behind it
cut_and_rest : (n : ℕ) (bytes : List ℕ) → bytes ≡ take n bytes ++ drop (length (take n bytes)) bytes
cut_and_rest zero bytes = refl
cut_and_rest (suc n) [] = refl
cut_and_rest (suc n) (byte ∷ bytes) = ap (λ more. byte ∷ more) (cut_and_rest n bytes)

pub front_and_rest : (bytes : List ℕ) (first : Lexeme) → front_lexeme bytes ≡ Some first → bytes ≡ first.bytes ++ drop (length first.bytes) bytes
front_and_rest bytes first front =
    let cut = front_is_cut bytes first front in
    rw cut.1 (cut_and_rest cut.0 bytes)

all_weaker : (test other : ℕ → Bool) → ((byte : ℕ) → test byte ≡ true → other byte ≡ true) → (bytes : List ℕ) → list_all test bytes ≡ true → list_all other bytes ≡ true
all_weaker test other weaker [] all = refl
all_weaker test other weaker (byte ∷ bytes) all =
    let both = both_pass (test byte) (list_all test bytes) all in
    rw (weaker byte both.0) (all_weaker test other weaker bytes both.1)

abbrev is_visible : ℕ → Bool
is_visible byte = not (is_blank byte) && not (begins_comment byte)

word_byte_visible : (byte : ℕ) → is_word_byte byte ≡ true → is_visible byte ≡ true
word_byte_visible byte passes = grind (arith, nat_tests)

digit_visible : (byte : ℕ) → is_ascii_digit byte ≡ true → is_visible byte ≡ true
digit_visible byte passes = grind (arith, nat_tests)

spelling_visible : (kind : Kind) (bytes : List ℕ) → IsSpelling kind bytes → list_all is_visible bytes ≡ true
spelling_visible Word [] spelled = absurd spelled
spelling_visible Word (first ∷ bytes) spelled = rw (word_byte_visible first (letter_in_word first spelled.0)) (all_weaker is_word_byte is_visible word_byte_visible bytes spelled.1)
spelling_visible Number bytes spelled =
    let digits = digits_pass (decimal spelled.0) (decimal_is_IsNumeral spelled.0 spelled.1).0.1 in
    rw spelled.2 (all_weaker is_ascii_digit is_visible digit_visible (decimal spelled.0) digits)
spelling_visible Sign [] spelled = absurd spelled
spelling_visible Sign (byte ∷ []) spelled = rw (holds_of_one is_visible (codes "+-*/%<>=()[],.") byte refl spelled) refl
spelling_visible Sign (byte ∷ next ∷ []) spelled = rw (holds_of_one is_visible (codes "<>=!") byte refl spelled.0, spelled.1) refl
spelling_visible Sign (byte ∷ next ∷ other ∷ bytes) spelled = absurd spelled

-- a line that begins with a visible byte, a blank or a comment
visible_first : (byte : ℕ) (bytes : List ℕ) → is_visible byte ≡ true → visible_bytes (byte ∷ bytes) ≡ byte ∷ visible_bytes bytes
visible_first byte bytes visible =
    let both = both_pass (not (is_blank byte)) (not (begins_comment byte)) visible in
    rw (run_goes_on (λ byte. not (begins_comment byte)) byte bytes both.1, both.0) refl

blank_first : (byte : ℕ) (bytes : List ℕ) → is_blank byte ≡ true → visible_bytes (byte ∷ bytes) ≡ visible_bytes bytes
blank_first byte bytes blank =
    let comment : not (begins_comment byte) ≡ true = grind (arith, nat_tests) in
    rw (run_goes_on (λ byte. not (begins_comment byte)) byte bytes comment, blank) refl

comment_first : (byte : ℕ) (bytes : List ℕ) → begins_comment byte ≡ true → visible_bytes (byte ∷ bytes) ≡ []
comment_first byte bytes comment = rw (run_stops (λ byte. not (begins_comment byte)) byte bytes (ap not comment)) refl

visible_front : (front rest : List ℕ) → list_all is_visible front ≡ true → visible_bytes (front ++ rest) ≡ front ++ visible_bytes rest
visible_front [] rest visible = refl
visible_front (byte ∷ front) rest visible =
    let both = both_pass (is_visible byte) (list_all is_visible front) visible in
    visible_first byte (front ++ rest) both.0 ∙ ap (λ more. byte ∷ more) (visible_front front rest both.1)

pub spelling_nonempty : (kind : Kind) (bytes : List ℕ) → IsSpelling kind bytes → 0 < length bytes
spelling_nonempty Word [] spelled = absurd spelled
spelling_nonempty Number [] spelled = omega (arith, ap length spelled.2, (decimal_is_IsNumeral spelled.0 spelled.1).0.0)
spelling_nonempty Sign [] spelled = absurd spelled
spelling_nonempty kind (byte ∷ bytes) spelled = omega arith

cover : (bytes : List ℕ) (n : ℕ) (tokens : List Lexeme) → lexemes_behind bytes n ≡ Some tokens → flat_map (λ token. token.bytes) tokens ≡ visible_bytes (drop n bytes)
cover [] zero tokens is = let none : tokens ≡ [] = cc in rw none refl
cover [] (suc n) tokens is = let none : tokens ≡ [] = cc in rw none refl
cover (byte ∷ bytes) (suc n) tokens is = cover bytes n tokens is
cover (byte ∷ bytes) zero tokens is = by (is_blank byte) refl (begins_comment byte) refl (front_lexeme (byte ∷ bytes)) refl is (cover bytes)
  where
    by : (blank : Bool) → is_blank byte ≡ blank → (comment : Bool) → begins_comment byte ≡ comment → (front : Option Lexeme) → front_lexeme (byte ∷ bytes) ≡ front
        → cond blank (lexemes_behind bytes 0) (cond comment (Some []) (option_and_then (λ first. option_map (λ more. first ∷ more) (lexemes_behind bytes (length first.bytes - 1))) front)) ≡ Some tokens
        → ((n : ℕ) (more : List Lexeme) → lexemes_behind bytes n ≡ Some more → flat_map (λ token. token.bytes) more ≡ visible_bytes (drop n bytes))
        → flat_map (λ token. token.bytes) tokens ≡ visible_bytes (byte ∷ bytes)
    by true blank _ _ _ _ is rest = rest 0 tokens is ∙ sym (blank_first byte bytes blank)
    by false _ true comment _ _ is rest = let none : tokens ≡ [] = cc in rw none (sym (comment_first byte bytes comment))
    by false _ false _ None _ is rest = cc
    by false _ false _ (Some first) front is rest =
        let more = put_first first (lexemes_behind bytes (length first.bytes - 1)) tokens is in
        let spelled = front_spelled (byte ∷ bytes) first front in
        let some = spelling_nonempty first.kind first.bytes spelled in
        let size : length first.bytes ≡ suc (length first.bytes - 1) = omega arith in
        let behind : drop (length first.bytes) (byte ∷ bytes) ≡ drop (length first.bytes - 1) bytes = ap (λ n. drop n (byte ∷ bytes)) size in
        ap (flat_map (λ token. token.bytes)) (sym more.2)
        ∙ ap (λ bytes. first.bytes ++ bytes) (rest (length first.bytes - 1) more.0 more.1)
        ∙ ap (λ rest. first.bytes ++ visible_bytes rest) (sym behind)
        ∙ sym (visible_front first.bytes (drop (length first.bytes) (byte ∷ bytes)) (spelling_visible first.kind first.bytes spelled))
        ∙ ap visible_bytes (sym (front_and_rest (byte ∷ bytes) first front))

pub tokens_cover : (line : List ℕ) (tokens : List Lexeme) → lexemes_of line ≡ Some tokens → flat_map (λ token. token.bytes) tokens ≡ visible_bytes line
tokens_cover line tokens is = cover line 0 tokens is
