-- How large an expression is. Parentheses of the text leave nothing in it.
use Rattle.std.specs.Prelude.{◌≡◌, ℕ, ℤ, ◌+◌, ◌<◌, max}
use Rattle.std.proofs.Common.{arith}
use Rattle.kernel_ast.specs.Folds.{fold-at_form}
use Rattle.kernel_ast.specs.declared.expression.Store.{Store}
use Rattle.kernel_ast.specs.declared.expression.Read.{Read}
use Rattle.kernel_ast.specs.declared.expression.Op.{Op}
use Rattle.kernel_ast.specs.declared.expression.Expr.{Expr}
use Rattle.kernel_ast.specs.declared.expression.Expr.TheOpen.{Expr-F, Literal, X, Y, Z, Level, Material, Step, Read as Reading, Number, Neg, Binary, Select}
use Rattle.kernel_ast.specs.declared.expression.Expr.TheVariants as expr
use Rattle.kernel_ast.specs.declared.expression.Expr.TheViews.{roll-Expr, out-Expr, roll-out-Expr}
use Rattle.kernel_ast.specs.declared.expression.Expr.TheFolds.{fold-Expr, map-Expr}

-- the depth of an expression over the depths of its parts
abbrev pub depth_over : Expr-F ℕ → ℕ
depth_over (Literal n) = 1
depth_over X = 1
depth_over Y = 1
depth_over Z = 1
depth_over Level = 1
depth_over Material = 1
depth_over Step = 1
depth_over (Reading r) = 1
depth_over (Number store name) = 1
depth_over (Neg a) = a + 1
depth_over (Binary o a b) = max a b + 1
depth_over (Select c a b) = max c (max a b) + 1

unfoldable pub depth_of : Expr → ℕ
depth_of = fold-Expr ℕ depth_over

-- the nodes of an expression over those of its parts
abbrev pub nodes_over : Expr-F ℕ → ℕ
nodes_over (Literal n) = 1
nodes_over X = 1
nodes_over Y = 1
nodes_over Z = 1
nodes_over Level = 1
nodes_over Material = 1
nodes_over Step = 1
nodes_over (Reading r) = 1
nodes_over (Number store name) = 1
nodes_over (Neg a) = a + 1
nodes_over (Binary o a b) = a + b + 1
nodes_over (Select c a b) = c + a + b + 1

unfoldable pub node_count : Expr → ℕ
node_count = fold-Expr ℕ nodes_over

-- the depth and the nodes at a form of expression, over those of its parts
pub depth_at_form : {x : Expr} (d : Expr-F Expr) → roll-Expr d ≡ x → depth_of x ≡ depth_over (map-Expr Expr ℕ depth_of d)
unfolding depth_of
depth_at_form d made = fold-at_form depth_over d made

pub nodes_at_form : {x : Expr} (d : Expr-F Expr) → roll-Expr d ≡ x → node_count x ≡ nodes_over (map-Expr Expr ℕ node_count d)
unfolding node_count
nodes_at_form d made = fold-at_form nodes_over d made

depth_over_positive : (d : Expr-F ℕ) → 0 < depth_over d
depth_over_positive (Literal n) = omega arith
depth_over_positive X = omega arith
depth_over_positive Y = omega arith
depth_over_positive Z = omega arith
depth_over_positive Level = omega arith
depth_over_positive Material = omega arith
depth_over_positive Step = omega arith
depth_over_positive (Reading r) = omega arith
depth_over_positive (Number store name) = omega arith
depth_over_positive (Neg a) = omega arith
depth_over_positive (Binary o a b) = omega arith
depth_over_positive (Select c a b) = omega arith

nodes_over_positive : (d : Expr-F ℕ) → 0 < nodes_over d
nodes_over_positive (Literal n) = omega arith
nodes_over_positive X = omega arith
nodes_over_positive Y = omega arith
nodes_over_positive Z = omega arith
nodes_over_positive Level = omega arith
nodes_over_positive Material = omega arith
nodes_over_positive Step = omega arith
nodes_over_positive (Reading r) = omega arith
nodes_over_positive (Number store name) = omega arith
nodes_over_positive (Neg a) = omega arith
nodes_over_positive (Binary o a b) = omega arith
nodes_over_positive (Select c a b) = omega arith

-- an expression has a level and a node at least
pub depth_of_positive : (e : Expr) → 0 < depth_of e
depth_of_positive e = rw (depth_at_form (out-Expr e) (roll-out-Expr e)) (depth_over_positive _)

pub node_count_positive : (e : Expr) → 0 < node_count e
node_count_positive e = rw (nodes_at_form (out-Expr e) (roll-out-Expr e)) (nodes_over_positive _)

pub depth_of-Literal : (n : ℤ) → depth_of (expr.Literal n) ≡ 1
depth_of-Literal n = depth_at_form (Literal n) (expr.rolls-Literal n)

pub depth_of-X : depth_of expr.X ≡ 1
depth_of-X = depth_at_form X expr.rolls-X

pub depth_of-Y : depth_of expr.Y ≡ 1
depth_of-Y = depth_at_form Y expr.rolls-Y

pub depth_of-Z : depth_of expr.Z ≡ 1
depth_of-Z = depth_at_form Z expr.rolls-Z

pub depth_of-Level : depth_of expr.Level ≡ 1
depth_of-Level = depth_at_form Level expr.rolls-Level

pub depth_of-Material : depth_of expr.Material ≡ 1
depth_of-Material = depth_at_form Material expr.rolls-Material

pub depth_of-Step : depth_of expr.Step ≡ 1
depth_of-Step = depth_at_form Step expr.rolls-Step

pub depth_of-Read : (r : Read) → depth_of (expr.Read r) ≡ 1
depth_of-Read r = depth_at_form (Reading r) (expr.rolls-Read r)

pub depth_of-Number : (store : Store) (name : ℕ) → depth_of (expr.Number store name) ≡ 1
depth_of-Number store name = depth_at_form (Number store name) (expr.rolls-Number store name)

pub depth_of-Neg : (a : Expr) → depth_of (expr.Neg a) ≡ depth_of a + 1
depth_of-Neg a = depth_at_form (Neg a) (expr.rolls-Neg a)

pub depth_of-Binary : (o : Op) (a b : Expr) → depth_of (expr.Binary o a b) ≡ max (depth_of a) (depth_of b) + 1
depth_of-Binary o a b = depth_at_form (Binary o a b) (expr.rolls-Binary o a b)

pub depth_of-Select : (c a b : Expr) →
    depth_of (expr.Select c a b) ≡ max (depth_of c) (max (depth_of a) (depth_of b)) + 1
depth_of-Select c a b = depth_at_form (Select c a b) (expr.rolls-Select c a b)

pub node_count-Literal : (n : ℤ) → node_count (expr.Literal n) ≡ 1
node_count-Literal n = nodes_at_form (Literal n) (expr.rolls-Literal n)

pub node_count-X : node_count expr.X ≡ 1
node_count-X = nodes_at_form X expr.rolls-X

pub node_count-Y : node_count expr.Y ≡ 1
node_count-Y = nodes_at_form Y expr.rolls-Y

pub node_count-Z : node_count expr.Z ≡ 1
node_count-Z = nodes_at_form Z expr.rolls-Z

pub node_count-Level : node_count expr.Level ≡ 1
node_count-Level = nodes_at_form Level expr.rolls-Level

pub node_count-Material : node_count expr.Material ≡ 1
node_count-Material = nodes_at_form Material expr.rolls-Material

pub node_count-Step : node_count expr.Step ≡ 1
node_count-Step = nodes_at_form Step expr.rolls-Step

pub node_count-Read : (r : Read) → node_count (expr.Read r) ≡ 1
node_count-Read r = nodes_at_form (Reading r) (expr.rolls-Read r)

pub node_count-Number : (store : Store) (name : ℕ) → node_count (expr.Number store name) ≡ 1
node_count-Number store name = nodes_at_form (Number store name) (expr.rolls-Number store name)

pub node_count-Neg : (a : Expr) → node_count (expr.Neg a) ≡ node_count a + 1
node_count-Neg a = nodes_at_form (Neg a) (expr.rolls-Neg a)

pub node_count-Binary : (o : Op) (a b : Expr) → node_count (expr.Binary o a b) ≡ node_count a + node_count b + 1
node_count-Binary o a b = nodes_at_form (Binary o a b) (expr.rolls-Binary o a b)

pub node_count-Select : (c a b : Expr) →
    node_count (expr.Select c a b) ≡ node_count c + node_count a + node_count b + 1
node_count-Select c a b = nodes_at_form (Select c a b) (expr.rolls-Select c a b)

-- the depth of each form of expression
pub ruleset depths_of_forms = (
  depth_of-Literal,
  depth_of-X,
  depth_of-Y,
  depth_of-Z,
  depth_of-Level,
  depth_of-Material,
  depth_of-Step,
  depth_of-Read,
  depth_of-Number,
  depth_of-Neg,
  depth_of-Binary,
  depth_of-Select,
)

-- the nodes of each form of expression
pub ruleset node_counts_of_forms = (
  node_count-Literal,
  node_count-X,
  node_count-Y,
  node_count-Z,
  node_count-Level,
  node_count-Material,
  node_count-Step,
  node_count-Read,
  node_count-Number,
  node_count-Neg,
  node_count-Binary,
  node_count-Select,
)
