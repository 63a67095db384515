-- What holds of all tokens.
use Rattle.std.specs.Prelude.{◌⊎◌, List}
use Rattle.uts_lex.specs.Lexemes.{Lexeme}
use Rattle.kernel_ast.specs.declared.expression.Expr.{Expr}
use Rattle.kernel_parse.specs.Grammar.{Words, SpellsExpression}

-- tokens are some expression, or they are none
abbrev pub ExpressionsAreJudged : Type 0
ExpressionsAreJudged = (tokens : List Lexeme) (names : Words)
    → ((e : Expr) × (after : Words) × SpellsExpression tokens names e after)
    ⊎ ((e : Expr) (after : Words) → SpellsExpression tokens names e after → ⊥)
