-- The tokens of a text, as the code keeps them, and the bytes that they stand for.
use Rattle.std.specs.Prelude.{◌≡◌, ℕ, ◌<◌, ◌≤◌, List, ◌++◌, map, slice_range, All, AllPairs, IsTrue, [], ◌∷◌, Option, Some, None}
use Rattle.std.specs.List.{list_all}
use Rattle.uts_lex.specs.declared.token.Token.{Token}
use Rattle.uts_lex.specs.Lexemes.{Lexeme, lexeme, is_blank, ends_line, put_before, lexemes_of}
use Rattle.uts_lex.specs.Spelling.{IsLexeme}
use Rattle.uts_lex.specs.Lines.{line_end}

-- what the token is, by the bytes of the text from its start to its end
abbrev pub lexeme_at : List ℕ → Token → Lexeme
lexeme_at text token = lexeme token.kind (slice_range text token.start token.end)

-- the token has this line's number, and stands between two places of the text
pub record StandsIn (line from to : ℕ) (token : Token) : Type 0 where
  pub number : token.line ≡ line
  pub from_start : from ≤ token.start
  pub not_empty : token.start < token.end
  pub to_end : token.end ≤ to

-- the bytes between two places are blanks
abbrev pub AreBlanks : List ℕ → (from to : ℕ) → Type 0
AreBlanks text from to = IsTrue (list_all is_blank (slice_range text from to))

-- The bytes between two places are these tokens with blanks before each, and behind the last one blanks and perhaps a comment.
abbrev pub FillLine : List ℕ → (from to : ℕ) → List Token → Type 0
FillLine text from to [] = IsTrue (ends_line (slice_range text from to))
FillLine text from to (token ∷ tokens) = AreBlanks text from token.start × FillLine text token.end to tokens

-- new is old and behind it the tokens of the bytes between two places of a line, which has the number `line`
pub record AppendsTokens (text : List ℕ) (from to line : ℕ) (old new : List Token) : Type 0 where
  pub tokens : List Token
  pub appended : new ≡ old ++ tokens
  pub lexemes : lexemes_of (slice_range text from to) ≡ Some (map (lexeme_at text) tokens)
  pub spelled : All (λ token. IsLexeme (lexeme_at text token)) tokens
  pub places : All (StandsIn line from to) tokens
  pub in_order : AllPairs (λ token next. token.end ≤ next.start) tokens
  pub between : FillLine text from to tokens

-- the same of the whole line that begins at `start`
abbrev pub AppendsLine : List ℕ → (start line : ℕ) → (old new : List Token) → Type 0
AppendsLine text start line old new = AppendsTokens text start (line_end text start) line old new

-- the first token of the bytes between two places of a line, with blanks before it, if there is one
abbrev pub IsFirstToken : List ℕ → (from to line : ℕ) → Option Token → Type 0
IsFirstToken text from to line None =
    (lexemes_of (slice_range text from to) ≡ Some []) × IsTrue (ends_line (slice_range text from to))
IsFirstToken text from to line (Some token) =
    StandsIn line from to token
    × (lexemes_of (slice_range text from to) ≡ put_before (lexeme_at text token) (lexemes_of (slice_range text token.end to)))
    × AreBlanks text from token.start
