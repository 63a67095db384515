-- How tokens are spelled, apart from the place where they stand.
use Rattle.std.specs.Prelude.{◌≡◌, ℕ, ◌++◌, ◌<◌, ◌≤◌, ◌^◌, List, [], ◌∷◌, length, decimal, codes, IsTrue, filter, take_while, not}
use Rattle.std.specs.Char.{is_ascii_alphabetic, is_ascii_digit}
use Rattle.std.specs.List.{list_all, prefix_len}
use Rattle.uts_lex.specs.declared.token.Kind.{Kind}
use Rattle.uts_lex.specs.declared.token.Kind.TheVariants.{Word, Number, Sign}
use Rattle.uts_lex.specs.Lexemes.{Lexeme, is_blank, begins_comment, is_word_byte, is_one_of, sign_length}

-- a letter, and behind it letters, digits and `_`, at most 32 bytes in all
abbrev pub IsWord : List ℕ → Type 0
IsWord [] = ⊥
IsWord (first ∷ bytes) = IsTrue (is_ascii_alphabetic first) × IsTrue (list_all is_word_byte bytes) × (length (first ∷ bytes) ≤ 32)

-- the decimal of a number below 2 ^ 64
abbrev pub IsNumber : List ℕ → Type 0
IsNumber bytes = (n : ℕ) × (n < 2 ^ 64) × (bytes ≡ decimal n)

-- one byte of these, or one of `<`, `>`, `=` and `!` and behind it `=` (61)
abbrev pub IsSign : List ℕ → Type 0
IsSign [] = ⊥
IsSign (byte ∷ []) = IsTrue (is_one_of (codes "+-*/%<>=()[],.") byte)
IsSign (byte ∷ next ∷ []) = IsTrue (is_one_of (codes "<>=!") byte) × (next ≡ 61)
IsSign (byte ∷ next ∷ other ∷ bytes) = ⊥

abbrev pub IsSpelling : Kind → List ℕ → Type 0
IsSpelling Word = IsWord
IsSpelling Number = IsNumber
IsSpelling Sign = IsSign

-- the bytes spell a token of the kind
abbrev pub IsLexeme : Lexeme → Type 0
IsLexeme lexeme = IsSpelling lexeme.kind lexeme.bytes

-- what stands behind a token does not go on with it
abbrev pub EndsBefore : Kind → (bytes rest : List ℕ) → Type 0
EndsBefore Word bytes rest = prefix_len is_word_byte rest ≡ 0
EndsBefore Number bytes rest = prefix_len is_ascii_digit rest ≡ 0
EndsBefore Sign bytes rest = sign_length (bytes ++ rest) ≡ length bytes

-- the bytes of a line but for blanks and a comment
abbrev pub visible_bytes : List ℕ → List ℕ
visible_bytes line = filter (λ byte. not (is_blank byte)) (take_while (λ byte. not (begins_comment byte)) line)

-- the token stands at the front of the bytes, and no well spelled one that stands there is longer
pub record IsLongest (token : Lexeme) (bytes : List ℕ) : Type 0 where
  pub spelled : IsLexeme token
  pub at_front : (rest : List ℕ) × (bytes ≡ token.bytes ++ rest)
  pub longest : (other : Lexeme) (rest : List ℕ) → IsLexeme other → bytes ≡ other.bytes ++ rest → length other.bytes ≤ length token.bytes
