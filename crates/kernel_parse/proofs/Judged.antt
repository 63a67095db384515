-- Tokens are some expression, or they are none.
use Rattle.std.proofs.Common.{◌≡◌, List, Option, Some, None, ◌⊎◌, inl, inr, refl, sym, ◌∙◌}
use Rattle.uts_lex.specs.Lexemes.{Lexeme}
use Rattle.kernel_ast.specs.declared.expression.Expr.{Expr}
use Rattle.kernel_parse.specs.Grammar.{Words, SpellsExpression}
use Rattle.kernel_parse.specs.Laws.{ExpressionsAreJudged}
use Rattle.kernel_parse.specs.Reading.{Parsed, all_of}
use Rattle.kernel_parse.proofs.Sound.{read_spelled}
use Rattle.kernel_parse.proofs.Complete.{all_read}

-- by what all of the tokens are read as
read_judged : (tokens : List Lexeme) (names : Words) (read : Option Parsed) → all_of names tokens ≡ read
    → ((e : Expr) × (after : Words) × SpellsExpression tokens names e after) ⊎ ((e : Expr) (after : Words) → SpellsExpression tokens names e after → ⊥)
read_judged tokens names (Some p) is = inl (p.expr, p.names, read_spelled names tokens p is)
read_judged tokens names None is = inr (λ e after s. let h = sym is ∙ all_read names after tokens e s in absurd cc)

pub all_judged : ExpressionsAreJudged
all_judged tokens names = read_judged tokens names (all_of names tokens) refl
