-- The names of each form of expression, and whether its numbers have 64 bits.
use Rattle.std.proofs.Common.{◌≡◌, ℕ, ◌^◌, ℤ, pos, true, ◌&&◌, [], ◌∷◌, ◌++◌}
use Rattle.std.specs.Prelude.{int_lt}
use Rattle.kernel_ast.specs.declared.expression.Store.{Store}
use Rattle.kernel_ast.specs.declared.expression.Read.{Read}
use Rattle.kernel_ast.specs.declared.expression.Op.{Op}
use Rattle.kernel_ast.specs.declared.expression.Expr.{Expr}
use Rattle.kernel_ast.specs.declared.expression.Expr.TheOpen.{Literal, X, Y, Z, Level, Material, Step, Read as Reading, Number, Neg, Binary, Select}
use Rattle.kernel_ast.specs.declared.expression.Expr.TheVariants as expr
use Rattle.problem_printable.specs.Numbering.{expression_names, names_at_form}
use Rattle.problem_printable.specs.Printable.{is_offset, expression_fits, fits_at_form}

pub expression_names-Literal : (n : ℤ) → expression_names (expr.Literal n) ≡ []
expression_names-Literal n = names_at_form (Literal n) (expr.rolls-Literal n)

pub expression_names-X : expression_names expr.X ≡ []
expression_names-X = names_at_form X expr.rolls-X

pub expression_names-Y : expression_names expr.Y ≡ []
expression_names-Y = names_at_form Y expr.rolls-Y

pub expression_names-Z : expression_names expr.Z ≡ []
expression_names-Z = names_at_form Z expr.rolls-Z

pub expression_names-Level : expression_names expr.Level ≡ []
expression_names-Level = names_at_form Level expr.rolls-Level

pub expression_names-Material : expression_names expr.Material ≡ []
expression_names-Material = names_at_form Material expr.rolls-Material

pub expression_names-Step : expression_names expr.Step ≡ []
expression_names-Step = names_at_form Step expr.rolls-Step

pub expression_names-Read : (r : Read) → expression_names (expr.Read r) ≡ (r.name ∷ [])
expression_names-Read r = names_at_form (Reading r) (expr.rolls-Read r)

pub expression_names-Number : (store : Store) (name : ℕ) → expression_names (expr.Number store name) ≡ (name ∷ [])
expression_names-Number store name = names_at_form (Number store name) (expr.rolls-Number store name)

pub expression_names-Neg : (a : Expr) → expression_names (expr.Neg a) ≡ expression_names a
expression_names-Neg a = names_at_form (Neg a) (expr.rolls-Neg a)

pub expression_names-Binary : (o : Op) (a b : Expr) → expression_names (expr.Binary o a b) ≡ (expression_names a ++ expression_names b)
expression_names-Binary o a b = names_at_form (Binary o a b) (expr.rolls-Binary o a b)

pub expression_names-Select : (c a b : Expr) → expression_names (expr.Select c a b) ≡ (expression_names c ++ (expression_names a ++ expression_names b))
expression_names-Select c a b = names_at_form (Select c a b) (expr.rolls-Select c a b)

-- each form of expression
pub ruleset names_of_forms = (
  expression_names-Literal,
  expression_names-X,
  expression_names-Y,
  expression_names-Z,
  expression_names-Level,
  expression_names-Material,
  expression_names-Step,
  expression_names-Read,
  expression_names-Number,
  expression_names-Neg,
  expression_names-Binary,
  expression_names-Select,
)

pub expression_fits-Literal : (n : ℤ) → expression_fits (expr.Literal n) ≡ int_lt n (pos (2 ^ 63))
expression_fits-Literal n = fits_at_form (Literal n) (expr.rolls-Literal n)

pub expression_fits-X : expression_fits expr.X ≡ true
expression_fits-X = fits_at_form X expr.rolls-X

pub expression_fits-Y : expression_fits expr.Y ≡ true
expression_fits-Y = fits_at_form Y expr.rolls-Y

pub expression_fits-Z : expression_fits expr.Z ≡ true
expression_fits-Z = fits_at_form Z expr.rolls-Z

pub expression_fits-Level : expression_fits expr.Level ≡ true
expression_fits-Level = fits_at_form Level expr.rolls-Level

pub expression_fits-Material : expression_fits expr.Material ≡ true
expression_fits-Material = fits_at_form Material expr.rolls-Material

pub expression_fits-Step : expression_fits expr.Step ≡ true
expression_fits-Step = fits_at_form Step expr.rolls-Step

pub expression_fits-Read : (r : Read) → expression_fits (expr.Read r) ≡ is_offset r.offset
expression_fits-Read r = fits_at_form (Reading r) (expr.rolls-Read r)

pub expression_fits-Number : (store : Store) (name : ℕ) → expression_fits (expr.Number store name) ≡ true
expression_fits-Number store name = fits_at_form (Number store name) (expr.rolls-Number store name)

pub expression_fits-Neg : (a : Expr) → expression_fits (expr.Neg a) ≡ expression_fits a
expression_fits-Neg a = fits_at_form (Neg a) (expr.rolls-Neg a)

pub expression_fits-Binary : (o : Op) (a b : Expr) → expression_fits (expr.Binary o a b) ≡ (expression_fits a && expression_fits b)
expression_fits-Binary o a b = fits_at_form (Binary o a b) (expr.rolls-Binary o a b)

pub expression_fits-Select : (c a b : Expr) → expression_fits (expr.Select c a b) ≡ (expression_fits c && (expression_fits a && expression_fits b))
expression_fits-Select c a b = fits_at_form (Select c a b) (expr.rolls-Select c a b)

-- each form of expression
pub ruleset fits_of_forms = (
  expression_fits-Literal,
  expression_fits-X,
  expression_fits-Y,
  expression_fits-Z,
  expression_fits-Level,
  expression_fits-Material,
  expression_fits-Step,
  expression_fits-Read,
  expression_fits-Number,
  expression_fits-Neg,
  expression_fits-Binary,
  expression_fits-Select,
)
