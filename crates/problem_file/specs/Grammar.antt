-- The problem that a text spells, and the first bad line of a text that spells none.
use Rattle.std.specs.Prelude.{◌≡◌, ℕ, suc, ◌<◌, ◌≤◌, List, [], ◌∷◌, ◌++◌, length, Some, None}
use Rattle.uts_lex.specs.Lexemes.{Lexeme, lexemes_of, HasBadByte}
use Rattle.uts_lex.specs.Lines.{line_at, after_line}
use Rattle.kernel_parse.specs.Grammar.{Words}
use Rattle.problem_types.specs.declared.problem.Problem.{Problem}
use Rattle.statement_parse.specs.Grammar.{SpellsStatement}
use Rattle.statement_parse.specs.Kinds.{kind_of}
use Rattle.statement_parse.specs.declared.statement.Statement.{Statement}
use Rattle.problem_file.specs.Statements.{Placed, at, statements_of, IsWhole}
use Rattle.problem_file.specs.Order.{next_place}
use Rattle.problem_file.specs.declared.order.Place.{Place}
use Rattle.problem_file.specs.declared.order.Place.TheVariants as place

-- The text begins with so many lines, up to the place `to`, that spell these statements with these names, each of which
-- may follow the one before it. A line is empty where it has no tokens.
pub data BeginsWith (text : List ℕ) : (to lines : ℕ) → Place → List Placed → Words → Type 0 where
  nothing : BeginsWith text 0 0 place.Start [] []
  empty_line : (from lines : ℕ) (before : Place) (ss : List Placed) (names : Words) → BeginsWith text from lines before ss names
      → from < length text → lexemes_of (line_at text from) ≡ Some []
      → BeginsWith text (after_line text from) (suc lines) before ss names
  statement : (from lines : ℕ) (before behind : Place) (ss : List Placed) (names after : Words) (ts : List Lexeme) (s : Statement)
      → BeginsWith text from lines before ss names → from < length text → lexemes_of (line_at text from) ≡ Some ts
      → SpellsStatement ts names s after → next_place before (kind_of s) ≡ Some behind
      → BeginsWith text (after_line text from) (suc lines) behind (ss ++ at (suc lines) s ∷ []) after

-- All lines of the text spell the statements of the problem, up to `end`, and its names in the order of their first
-- appearance.
pub record Spells (text : List ℕ) (p : Problem) : Type 0 where
  pub lines : ℕ
  pub spelled : BeginsWith text (length text) lines place.End (statements_of p) p.names
  pub whole : IsWhole p

-- The line with this number is bad, and none before it is: a byte of it begins no token, or its tokens are no statement
-- that may come at its place. Where no line is bad and the text ends before `end`, it is the number behind the last line.
pub data IsBadLine (text : List ℕ) : ℕ → Type 0 where
  bad_byte : (from lines : ℕ) (before : Place) (ss : List Placed) (names : Words) → BeginsWith text from lines before ss names
      → from < length text → HasBadByte (line_at text from)
      → IsBadLine text (suc lines)
  bad_statement : (from lines : ℕ) (before : Place) (ss : List Placed) (names : Words) (ts : List Lexeme) → BeginsWith text from lines before ss names
      → from < length text → lexemes_of (line_at text from) ≡ Some ts → 1 ≤ length ts
      → ((s : Statement) (after : Words) → SpellsStatement ts names s after → next_place before (kind_of s) ≡ None)
      → IsBadLine text (suc lines)
  no_end : (lines : ℕ) (before : Place) (ss : List Placed) (names : Words) → BeginsWith text (length text) lines before ss names
      → (before ≡ place.End → ⊥)
      → IsBadLine text (suc lines)

-- some text spells the problem
abbrev pub IsWellFormed : Problem → Type 0
IsWellFormed p = (text : List ℕ) × Spells text p
