-- The printed form of an expression, put together from its pieces.
use Rattle.std.proofs.Common.{◌≡◌, ℕ, List, ◌++◌, ℤ, codes, refl, ◌∙◌}
use Rattle.std.specs.Fmt.{signed_decimal}
use Rattle.kernel_ast.specs.declared.expression.Store.{Store}
use Rattle.kernel_ast.specs.declared.expression.Read.{Read}
use Rattle.kernel_ast.specs.declared.expression.Op.{Op}
use Rattle.kernel_ast.specs.declared.expression.Op.TheVariants as op
use Rattle.kernel_ast.specs.declared.expression.Expr.{Expr}
use Rattle.kernel_ast.specs.declared.expression.Expr.TheOpen.{Literal, X, Y, Z, Level, Material, Step, Read as Reading, Number, Neg, Binary, Select}
use Rattle.kernel_ast.specs.declared.expression.Expr.TheVariants as expr
use Rattle.kernel_parse.specs.Grammar.{Words}
use Rattle.problem_print.specs.Pieces.{opening_text, middle_text}
use Rattle.problem_print.specs.Printed.{name_text, store_text, read_text, operation_text, expression_text}
use Rattle.problem_print.proofs.Expressions.{text_at}

pub operation_pieces : (o : Op) (a b : List ℕ) → operation_text o a b ≡ opening_text o ++ (a ++ (middle_text o ++ (b ++ codes ")")))
operation_pieces op.Add a b = refl
operation_pieces op.Sub a b = refl
operation_pieces op.Mul a b = refl
operation_pieces op.Div a b = refl
operation_pieces op.Rem a b = refl
operation_pieces op.Lt a b = refl
operation_pieces op.Le a b = refl
operation_pieces op.Gt a b = refl
operation_pieces op.Ge a b = refl
operation_pieces op.Eq a b = refl
operation_pieces op.Ne a b = refl
operation_pieces op.Min a b = refl
operation_pieces op.Max a b = refl

module _ (names : Words) where
  pub text-Literal : (n : ℤ) → expression_text names (expr.Literal n) ≡ signed_decimal n
  text-Literal n = text_at names (Literal n) (expr.rolls-Literal n)

  pub text-X : expression_text names expr.X ≡ codes "x"
  text-X = text_at names X expr.rolls-X

  pub text-Y : expression_text names expr.Y ≡ codes "y"
  text-Y = text_at names Y expr.rolls-Y

  pub text-Z : expression_text names expr.Z ≡ codes "z"
  text-Z = text_at names Z expr.rolls-Z

  pub text-Level : expression_text names expr.Level ≡ codes "level"
  text-Level = text_at names Level expr.rolls-Level

  pub text-Material : expression_text names expr.Material ≡ codes "material"
  text-Material = text_at names Material expr.rolls-Material

  pub text-Step : expression_text names expr.Step ≡ codes "step"
  text-Step = text_at names Step expr.rolls-Step

  pub text-Read : (r : Read) → expression_text names (expr.Read r) ≡ read_text names r
  text-Read r = text_at names (Reading r) (expr.rolls-Read r)

  pub text-Number : (s : Store) (name : ℕ) → expression_text names (expr.Number s name) ≡ store_text s ++ (codes "." ++ name_text names name)
  text-Number s name = text_at names (Number s name) (expr.rolls-Number s name)

  pub text-Neg : (a : Expr) → expression_text names (expr.Neg a) ≡ codes "-" ++ expression_text names a
  text-Neg a = text_at names (Neg a) (expr.rolls-Neg a)

  pub text-Binary : (o : Op) (a b : Expr) → expression_text names (expr.Binary o a b)
      ≡ opening_text o ++ (expression_text names a ++ (middle_text o ++ (expression_text names b ++ codes ")")))
  text-Binary o a b = text_at names (Binary o a b) (expr.rolls-Binary o a b) ∙ operation_pieces o (expression_text names a) (expression_text names b)

  pub text-Select : (c a b : Expr) → expression_text names (expr.Select c a b)
      ≡ codes "select(" ++ (expression_text names c ++ (codes ", " ++ (expression_text names a ++ (codes ", " ++ (expression_text names b ++ codes ")")))))
  text-Select c a b = text_at names (Select c a b) (expr.rolls-Select c a b)

-- the text of each form of expression
pub ruleset expression_pieces = (
  text-Literal,
  text-X,
  text-Y,
  text-Z,
  text-Level,
  text-Material,
  text-Step,
  text-Read,
  text-Number,
  text-Neg,
  text-Binary,
  text-Select,
)
