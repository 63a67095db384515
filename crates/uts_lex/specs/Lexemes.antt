-- The tokens that the bytes of a line spell, each as its kind and its bytes.
use Rattle.std.specs.Prelude.{◌≡◌, ℕ, zero, suc, ◌-◌, ◌^◌, ◌==◌, Bool, true, ◌&&◌, ◌||◌, List, [], ◌∷◌, length, take, take_while, Option, Some, None, option_and_then, if◌then◌else◌, nat_lt, nat_le, codes, decimal}
use Rattle.std.specs.Char.{is_ascii_alphabetic, is_ascii_alphanumeric, is_ascii_digit}
use Rattle.std.specs.List.{list_any}
use Rattle.std.specs.Option.{option_map}
use Rattle.std.specs.Str.{bytes_eq}
use Rattle.std.specs.Str.Parse.{digits_value}
use Rattle.uts_lex.specs.declared.token.Kind.{Kind}
use Rattle.uts_lex.specs.declared.token.Kind.TheVariants.{Word, Number, Sign}

-- a token apart from the place where it stands
pub record Lexeme : Type 0 where
  pub kind : Kind
  pub bytes : List ℕ

abbrev pub lexeme : Kind → List ℕ → Lexeme
lexeme kind bytes = record { kind = kind; bytes = bytes }

-- a space, a tab or a carriage return
abbrev pub is_blank : ℕ → Bool
is_blank byte = byte == 32 || byte == 9 || byte == 13

-- `#` begins a comment, which runs to the end of the line
abbrev pub begins_comment : ℕ → Bool
begins_comment byte = byte == 35

-- blanks, and behind them nothing or a comment
abbrev pub ends_line : List ℕ → Bool
ends_line [] = true
ends_line (byte ∷ bytes) = begins_comment byte || (is_blank byte && ends_line bytes)

-- a letter, a digit or `_` goes on with a word
abbrev pub is_word_byte : ℕ → Bool
is_word_byte byte = is_ascii_alphanumeric byte || byte == 95

-- a word has at most 32 bytes
abbrev pub fits_word : List ℕ → Bool
fits_word run = nat_le (length run) 32

-- digits are a number where they are the decimal of the number that they write, and it is below 2 ^ 64
abbrev pub is_number : List ℕ → Bool
is_number run = nat_lt (digits_value 10 run) (2 ^ 64) && bytes_eq run (decimal (digits_value 10 run))

abbrev pub is_one_of : List ℕ → ℕ → Bool
is_one_of bytes byte = list_any (λ other. byte == other) bytes

-- `=` (61) behind one of `<`, `>`, `=` and `!` makes a sign of two bytes
abbrev pub sign_length : List ℕ → ℕ
sign_length [] = 0
sign_length (byte ∷ []) = if is_one_of (codes "+-*/%<>=()[],.") byte then 1 else 0
sign_length (byte ∷ next ∷ _) =
    if is_one_of (codes "<>=!") byte && next == 61 then 2
    else (if is_one_of (codes "+-*/%<>=()[],.") byte then 1 else 0)

-- the whole run of word bytes at the front, if a word may be so long
abbrev pub front_word : List ℕ → Option Lexeme
front_word bytes = let run = take_while is_word_byte bytes in if fits_word run then Some (lexeme Word run) else None

-- the whole run of digits at the front, if it is a number
abbrev pub front_number : List ℕ → Option Lexeme
front_number bytes = let run = take_while is_ascii_digit bytes in if is_number run then Some (lexeme Number run) else None

-- the longest sign at the front
abbrev pub front_sign : List ℕ → Option Lexeme
front_sign bytes = let sign = take (sign_length bytes) bytes in if nat_lt 0 (length sign) then Some (lexeme Sign sign) else None

-- the token at the front, by the first byte: a letter, a digit or another
abbrev pub front_lexeme : List ℕ → Option Lexeme
front_lexeme [] = None
front_lexeme (byte ∷ bytes) =
    if is_ascii_alphabetic byte then front_word (byte ∷ bytes)
    else (if is_ascii_digit byte then front_number (byte ∷ bytes) else front_sign (byte ∷ bytes))

-- the token, and the tokens behind it
abbrev pub put_before : Lexeme → Option (List Lexeme) → Option (List Lexeme)
put_before first more = option_map (λ lexemes. first ∷ lexemes) more

-- the tokens of what stands behind the first `skipped` bytes
abbrev pub lexemes_behind : List ℕ → ℕ → Option (List Lexeme)
lexemes_behind [] skipped = Some []
lexemes_behind (byte ∷ bytes) (suc skipped) = lexemes_behind bytes skipped
lexemes_behind (byte ∷ bytes) zero =
    if is_blank byte then lexemes_behind bytes 0
    else (if begins_comment byte then Some []
    else option_and_then (λ first. put_before first (lexemes_behind bytes (length first.bytes - 1))) (front_lexeme (byte ∷ bytes)))

-- the tokens of a line, from the first to the last, if each byte of it belongs to a token, a blank or a comment
abbrev pub lexemes_of : List ℕ → Option (List Lexeme)
lexemes_of line = lexemes_behind line 0

-- some byte of the line begins no token
abbrev pub HasBadByte : List ℕ → Type 0
HasBadByte line = lexemes_of line ≡ None
