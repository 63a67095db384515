-- What a fold of an expression gives at a form of expression.
use Rattle.std.specs.Prelude.{◌≡◌}
use Rattle.std.proofs.Common.{sym, ap, ◌∙◌}
use Rattle.kernel_ast.specs.declared.expression.Expr.{Expr}
use Rattle.kernel_ast.specs.declared.expression.Expr.TheOpen.{Expr-F}
use Rattle.kernel_ast.specs.declared.expression.Expr.TheViews.{roll-Expr}
use Rattle.kernel_ast.specs.declared.expression.Expr.TheFolds.{fold-Expr, fold-roll-Expr, map-Expr}

-- the step of the fold at the expression's top, over what the fold gives for each part
pub fold-at_form : {A : Type 0} (step : Expr-F A → A) {x : Expr} (d : Expr-F Expr) → roll-Expr d ≡ x →
    fold-Expr A step x ≡ step (map-Expr Expr A (fold-Expr A step) d)
fold-at_form {A} step d made = ap (fold-Expr A step) (sym made) ∙ fold-roll-Expr A step d
