-- What holds of each statement that tokens spell.
use Rattle.std.specs.Prelude.{◌≡◌, ◌⊎◌, ◌+◌, ◌<◌, ◌≤◌, ◌^◌, ℕ, List, length}
use Rattle.uts_lex.specs.Lexemes.{Lexeme}
use Rattle.kernel_parse.specs.Grammar.{Words}
use Rattle.kernel_parse.specs.Source.{Extends}
use Rattle.statement_parse.specs.Form.{IsStatementInForm}
use Rattle.statement_parse.specs.Grammar.{SpellsStatement}
use Rattle.statement_parse.specs.declared.statement.Statement.{Statement}

-- tokens are one statement at most, and name the same words
abbrev pub OneStatement : Type 0
OneStatement = (tokens : List Lexeme) (names after other : Words) (s t : Statement)
    → SpellsStatement tokens names s after → SpellsStatement tokens names t other → (s ≡ t) × (after ≡ other)

-- the words before a statement stay, and it names no more new ones than it has tokens, of which it has some
abbrev pub FewNewNames : Type 0
FewNewNames = (tokens : List Lexeme) (names after : Words) (s : Statement) → SpellsStatement tokens names s after
    → Extends names after × (length after ≤ length names + length tokens) × (1 ≤ length tokens)

-- a statement of fewer than 2^31 tokens is in form, over each number of names from those then named on
abbrev pub StatementsAreInForm : Type 0
StatementsAreInForm = (tokens : List Lexeme) (names after : Words) (s : Statement) (known : ℕ) → SpellsStatement tokens names s after
    → length after ≤ known → length tokens < 2 ^ 31 → IsStatementInForm known s

-- tokens are some statement, or they are none
abbrev pub StatementsAreJudged : Type 0
StatementsAreJudged = (tokens : List Lexeme) (names : Words)
    → ((s : Statement) × (after : Words) × SpellsStatement tokens names s after)
    ⊎ ((s : Statement) (after : Words) → SpellsStatement tokens names s after → ⊥)
