-- The number of an expression.
use Rattle.std.specs.Prelude.{◌≡◌, ℕ, ℤ, pos, Bool, true, false, not, int_lt, int_le, if◌then◌else◌}
use Rattle.std.proofs.Common.{ap}
use Rattle.std.specs.Int.{int_min, int_max}
use Rattle.std.specs.Ordering.{int_eq}
use Rattle.kernel_ast.specs.Arithmetic.{sum_of, difference_of, product_of, quotient_of, remainder_of}
use Rattle.kernel_ast.specs.Folds.{fold-at_form}
use Rattle.kernel_ast.specs.declared.expression.Store.{Store}
use Rattle.kernel_ast.specs.declared.expression.Read.{Read}
use Rattle.kernel_ast.specs.declared.expression.Op.{Op}
use Rattle.kernel_ast.specs.declared.expression.Op.TheVariants as op
use Rattle.kernel_ast.specs.declared.expression.Expr.{Expr}
use Rattle.kernel_ast.specs.declared.expression.Expr.TheOpen.{Expr-F, Literal, X, Y, Z, Level, Material, Step, Read as Reading, Number, Neg, Binary, Select}
use Rattle.kernel_ast.specs.declared.expression.Expr.TheVariants as expr
use Rattle.kernel_ast.specs.declared.expression.Expr.TheViews.{roll-Expr}
use Rattle.kernel_ast.specs.declared.expression.Expr.TheFolds.{fold-Expr, map-Expr}

-- where a kernel runs, by the coordinates of its index, and what its reads give
pub record Environment : Type 0 where
  pub x : ℤ
  pub y : ℤ
  pub z : ℤ
  pub level : ℕ
  pub material : ℕ
  pub step : ℕ
  pub read : Read → ℤ
  pub number : Store → ℕ → ℤ

-- 1 where a comparison holds, else 0
abbrev pub truth_of : Bool → ℤ
truth_of true = pos 1
truth_of false = pos 0

abbrev pub result_of : Op → ℤ → ℤ → ℤ
result_of op.Add a b = sum_of a b
result_of op.Sub a b = difference_of a b
result_of op.Mul a b = product_of a b
result_of op.Div a b = quotient_of a b
result_of op.Rem a b = remainder_of a b
result_of op.Lt a b = truth_of (int_lt a b)
result_of op.Le a b = truth_of (int_le a b)
result_of op.Gt a b = truth_of (int_lt b a)
result_of op.Ge a b = truth_of (int_le b a)
result_of op.Eq a b = truth_of (int_eq a b)
result_of op.Ne a b = truth_of (not (int_eq a b))
result_of op.Min a b = int_min a b
result_of op.Max a b = int_max a b

-- the number of an expression whose parts are known as functions of the environment
abbrev pub number_of : Expr-F (Environment → ℤ) → Environment → ℤ
number_of (Literal n) e = n
number_of X e = e.x
number_of Y e = e.y
number_of Z e = e.z
number_of Level e = pos e.level
number_of Material e = pos e.material
number_of Step e = pos e.step
number_of (Reading r) e = e.read r
number_of (Number store name) e = e.number store name
number_of (Neg a) e = difference_of (pos 0) (a e)
number_of (Binary o a b) e = result_of o (a e) (b e)
number_of (Select c a b) e = if int_eq (c e) (pos 0) then b e else a e

-- the number of an expression where a kernel runs
unfoldable pub value_of : Expr → Environment → ℤ
value_of = fold-Expr (Environment → ℤ) number_of

-- the number at a form of expression, over those of its parts
value_at_form : {x : Expr} (d : Expr-F Expr) → roll-Expr d ≡ x → (e : Environment) →
    value_of x e ≡ number_of (map-Expr Expr (Environment → ℤ) value_of d) e
unfolding value_of
value_at_form d made e = ap (λ (f : Environment → ℤ). f e) (fold-at_form number_of d made)

pub value_of-Literal : (n : ℤ) (e : Environment) → value_of (expr.Literal n) e ≡ n
value_of-Literal n e = value_at_form (Literal n) (expr.rolls-Literal n) e

pub value_of-X : (e : Environment) → value_of expr.X e ≡ e.x
value_of-X e = value_at_form X expr.rolls-X e

pub value_of-Y : (e : Environment) → value_of expr.Y e ≡ e.y
value_of-Y e = value_at_form Y expr.rolls-Y e

pub value_of-Z : (e : Environment) → value_of expr.Z e ≡ e.z
value_of-Z e = value_at_form Z expr.rolls-Z e

pub value_of-Level : (e : Environment) → value_of expr.Level e ≡ pos e.level
value_of-Level e = value_at_form Level expr.rolls-Level e

pub value_of-Material : (e : Environment) → value_of expr.Material e ≡ pos e.material
value_of-Material e = value_at_form Material expr.rolls-Material e

pub value_of-Step : (e : Environment) → value_of expr.Step e ≡ pos e.step
value_of-Step e = value_at_form Step expr.rolls-Step e

pub value_of-Read : (r : Read) (e : Environment) → value_of (expr.Read r) e ≡ e.read r
value_of-Read r e = value_at_form (Reading r) (expr.rolls-Read r) e

pub value_of-Number : (store : Store) (name : ℕ) (e : Environment) → value_of (expr.Number store name) e ≡ e.number store name
value_of-Number store name e = value_at_form (Number store name) (expr.rolls-Number store name) e

pub value_of-Neg : (a : Expr) (e : Environment) → value_of (expr.Neg a) e ≡ difference_of (pos 0) (value_of a e)
value_of-Neg a e = value_at_form (Neg a) (expr.rolls-Neg a) e

pub value_of-Binary : (o : Op) (a b : Expr) (e : Environment) →
    value_of (expr.Binary o a b) e ≡ result_of o (value_of a e) (value_of b e)
value_of-Binary o a b e = value_at_form (Binary o a b) (expr.rolls-Binary o a b) e

pub value_of-Select : (c a b : Expr) (e : Environment) →
    value_of (expr.Select c a b) e ≡ (if int_eq (value_of c e) (pos 0) then value_of b e else value_of a e)
value_of-Select c a b e = value_at_form (Select c a b) (expr.rolls-Select c a b) e

-- the number of each form of expression
pub ruleset numbers_of_forms = (
  value_of-Literal,
  value_of-X,
  value_of-Y,
  value_of-Z,
  value_of-Level,
  value_of-Material,
  value_of-Step,
  value_of-Read,
  value_of-Number,
  value_of-Neg,
  value_of-Binary,
  value_of-Select,
)
