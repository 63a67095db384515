-- Expressions in form: what the text of a kernel can spell, over so many names.
use Rattle.std.specs.Prelude.{◌≡◌, ℕ, ℤ, pos, ◌≤◌, Bool, true, false, not, ◌&&◌, ◌||◌, nat_lt, int_le, IsTrue, List}
use Rattle.std.specs.List.{list_all}
use Rattle.std.specs.Ordering.{int_eq}
use Rattle.kernel_ast.specs.Folds.{fold-at_form}
use Rattle.kernel_ast.specs.Size.{depth_of, node_count}
use Rattle.kernel_ast.specs.declared.expression.Store.{Store}
use Rattle.kernel_ast.specs.declared.expression.How.{How}
use Rattle.kernel_ast.specs.declared.expression.How.TheVariants as how
use Rattle.kernel_ast.specs.declared.expression.Read.{Read}
use Rattle.kernel_ast.specs.declared.expression.Op.{Op}
use Rattle.kernel_ast.specs.declared.expression.Expr.{Expr}
use Rattle.kernel_ast.specs.declared.expression.Expr.TheOpen.{Expr-F, Literal, X, Y, Z, Level, Material, Step, Read as Reading, Number, Neg, Binary, Select}
use Rattle.kernel_ast.specs.declared.expression.Expr.TheVariants as expr
use Rattle.kernel_ast.specs.declared.expression.Expr.TheViews.{roll-Expr}
use Rattle.kernel_ast.specs.declared.expression.Expr.TheFolds.{fold-Expr, map-Expr}

-- a read that looks at the children of its index on the next finer level
abbrev pub is_fine : How → Bool
is_fine how.Same = false
is_fine how.Coarse = false
is_fine how.FineSum = true
is_fine how.FineMin = true
is_fine how.FineMax = true
is_fine how.FineCount = true

-- each number of an offset is 0
abbrev pub is_zero : List ℤ → Bool
is_zero offset = list_all (λ by. int_eq by (pos 0)) offset

-- a read has one of the names, and by a fine form the offset 0, 0, 0
abbrev pub is_read_in_form : ℕ → Read → Bool
is_read_in_form names r = nat_lt r.name names && (not (is_fine r.how) || is_zero r.offset)

-- Whether an expression's leaves are in form, over the same of its parts: a literal is at least 0, a read is in form,
-- and a reduction has one of the names.
abbrev pub leaves_over : ℕ → Expr-F Bool → Bool
leaves_over names (Literal n) = int_le (pos 0) n
leaves_over names X = true
leaves_over names Y = true
leaves_over names Z = true
leaves_over names Level = true
leaves_over names Material = true
leaves_over names Step = true
leaves_over names (Reading r) = is_read_in_form names r
leaves_over names (Number store name) = nat_lt name names
leaves_over names (Neg a) = a
leaves_over names (Binary o a b) = a && b
leaves_over names (Select c a b) = c && a && b

unfoldable pub are_leaves_in_form : ℕ → Expr → Bool
are_leaves_in_form names = fold-Expr Bool (leaves_over names)

-- an expression within limits of depth and nodes, with its leaves in form
pub record IsWithin (names depth nodes : ℕ) (e : Expr) : Type 0 where
  pub shallow : depth_of e ≤ depth
  pub few_nodes : node_count e ≤ nodes
  pub leaves : IsTrue (are_leaves_in_form names e)

-- an expression that a kernel may have
abbrev pub IsExpressionInForm : ℕ → Expr → Type 0
IsExpressionInForm names e = IsWithin names 64 256 e

leaves_at_form : (names : ℕ) {x : Expr} (d : Expr-F Expr) → roll-Expr d ≡ x →
    are_leaves_in_form names x ≡ leaves_over names (map-Expr Expr Bool (are_leaves_in_form names) d)
unfolding are_leaves_in_form
leaves_at_form names d made = fold-at_form (leaves_over names) d made

pub are_leaves_in_form-Literal : (names : ℕ) (n : ℤ) → are_leaves_in_form names (expr.Literal n) ≡ int_le (pos 0) n
are_leaves_in_form-Literal names n = leaves_at_form names (Literal n) (expr.rolls-Literal n)

pub are_leaves_in_form-X : (names : ℕ) → are_leaves_in_form names expr.X ≡ true
are_leaves_in_form-X names = leaves_at_form names X expr.rolls-X

pub are_leaves_in_form-Y : (names : ℕ) → are_leaves_in_form names expr.Y ≡ true
are_leaves_in_form-Y names = leaves_at_form names Y expr.rolls-Y

pub are_leaves_in_form-Z : (names : ℕ) → are_leaves_in_form names expr.Z ≡ true
are_leaves_in_form-Z names = leaves_at_form names Z expr.rolls-Z

pub are_leaves_in_form-Level : (names : ℕ) → are_leaves_in_form names expr.Level ≡ true
are_leaves_in_form-Level names = leaves_at_form names Level expr.rolls-Level

pub are_leaves_in_form-Material : (names : ℕ) → are_leaves_in_form names expr.Material ≡ true
are_leaves_in_form-Material names = leaves_at_form names Material expr.rolls-Material

pub are_leaves_in_form-Step : (names : ℕ) → are_leaves_in_form names expr.Step ≡ true
are_leaves_in_form-Step names = leaves_at_form names Step expr.rolls-Step

pub are_leaves_in_form-Read : (names : ℕ) (r : Read) → are_leaves_in_form names (expr.Read r) ≡ is_read_in_form names r
are_leaves_in_form-Read names r = leaves_at_form names (Reading r) (expr.rolls-Read r)

pub are_leaves_in_form-Number : (names : ℕ) (store : Store) (name : ℕ) →
    are_leaves_in_form names (expr.Number store name) ≡ nat_lt name names
are_leaves_in_form-Number names store name = leaves_at_form names (Number store name) (expr.rolls-Number store name)

pub are_leaves_in_form-Neg : (names : ℕ) (a : Expr) → are_leaves_in_form names (expr.Neg a) ≡ are_leaves_in_form names a
are_leaves_in_form-Neg names a = leaves_at_form names (Neg a) (expr.rolls-Neg a)

pub are_leaves_in_form-Binary : (names : ℕ) (o : Op) (a b : Expr) →
    are_leaves_in_form names (expr.Binary o a b) ≡ (are_leaves_in_form names a && are_leaves_in_form names b)
are_leaves_in_form-Binary names o a b = leaves_at_form names (Binary o a b) (expr.rolls-Binary o a b)

pub are_leaves_in_form-Select : (names : ℕ) (c a b : Expr) →
    are_leaves_in_form names (expr.Select c a b)
    ≡ (are_leaves_in_form names c && are_leaves_in_form names a && are_leaves_in_form names b)
are_leaves_in_form-Select names c a b = leaves_at_form names (Select c a b) (expr.rolls-Select c a b)

-- whether the leaves of each form of expression are in form
pub ruleset leaves_of_forms = (
  are_leaves_in_form-Literal,
  are_leaves_in_form-X,
  are_leaves_in_form-Y,
  are_leaves_in_form-Z,
  are_leaves_in_form-Level,
  are_leaves_in_form-Material,
  are_leaves_in_form-Step,
  are_leaves_in_form-Read,
  are_leaves_in_form-Number,
  are_leaves_in_form-Neg,
  are_leaves_in_form-Binary,
  are_leaves_in_form-Select,
)
