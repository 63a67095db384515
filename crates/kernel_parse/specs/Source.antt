-- The tokens of a text as the code keeps them.
use Rattle.std.specs.Prelude.{◌≡◌, ℕ, ◌+◌, ◌<◌, ◌≤◌, ◌^◌, List, ◌++◌, length, map, All}
use Rattle.uts_lex.specs.declared.token.Token.{Token}
use Rattle.uts_lex.specs.Lexemes.{Lexeme}
use Rattle.uts_lex.specs.Tokens.{lexeme_at}
use Rattle.kernel_parse.specs.Grammar.{Words}

-- the token's bytes lie in the text
pub record LiesIn (text : List ℕ) (token : Token) : Type 0 where
  pub ordered : token.start ≤ token.end
  pub inside : token.end ≤ length text

-- what the tokens are, by the bytes of the text
abbrev pub lexemes : List ℕ → List Token → List Lexeme
lexemes text tokens = map (lexeme_at text) tokens

-- the tokens lie in the text, and are few enough that each may be a new name
pub record CanRead (text : List ℕ) (names : Words) (tokens : List Token) : Type 0 where
  pub inside : All (LiesIn text) tokens
  pub few : length names + length tokens < 2 ^ 31

-- the rest is shorter, and lies in the text too
pub record IsBehind (text : List ℕ) (tokens rest : List Token) : Type 0 where
  pub inside : All (LiesIn text) rest
  pub shorter : length rest < length tokens

-- new is old, and perhaps further words
pub record Extends (old new : Words) : Type 0 where
  pub more : Words
  pub words : new ≡ old ++ more
