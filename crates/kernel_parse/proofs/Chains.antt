-- Reading operands and operators one after the other, as a loop does.
use Rattle.std.proofs.Common.{◌≡◌, ℕ, suc, ◌-◌, ◌+◌, ◌≤◌, ◌<◌, List, Option, Some, None, refl, sym, ◌∙◌, arith}
use Rattle.uts_lex.specs.Lexemes.{Lexeme}
use Rattle.kernel_ast.specs.declared.expression.Op.{Op}
use Rattle.kernel_ast.specs.declared.expression.Expr.{Expr}
use Rattle.kernel_ast.specs.declared.expression.Expr.TheVariants as expr
use Rattle.kernel_parse.specs.declared.fault.ExprFault.{ExprFault}
use Rattle.kernel_parse.specs.declared.fault.ExprFault.TheVariants.{NoMemory}
use Rattle.kernel_parse.specs.declared.lexeme.Chain.{Chain}
use Rattle.kernel_parse.specs.declared.lexeme.Chain.TheVariants.{Sum, Product}
use Rattle.kernel_parse.specs.Grammar.{Words}
use Rattle.kernel_parse.specs.Reading.{Fails, first_as, Parsed, parsed, Reader, limited, more_at, whole_at, expression_at}

module _ (meaning : Lexeme → Option Op) (operand : Reader) (depth i : ℕ) (left : Parsed) (total : Option Parsed) where
  -- no operator stands behind it
  pub ends : i < depth → first_as meaning left.rest ≡ None → more_at meaning operand depth (depth - i) left ≡ total → total ≡ Some left
  unfolding more_at
  ends lt none so_far =
      let k : depth - i ≡ suc (depth - (i + 1)) = omega arith in
      let one : more_at meaning operand depth (depth - i) left ≡ Some left = rw (k, none) refl in
      sym so_far ∙ one

  -- so many operands are too deep
  pub runs_out : depth ≤ i → more_at meaning operand depth (depth - i) left ≡ total → total ≡ None
  unfolding more_at
  runs_out le so_far =
      let k : depth - i ≡ 0 = omega arith in
      let one : more_at meaning operand depth (depth - i) left ≡ None = rw k refl in
      sym so_far ∙ one

  -- an operator, and no operand behind it
  pub fails_at_operand : (e : ExprFault) (op : Op) (behind : List Lexeme) → i < depth → first_as meaning left.rest ≡ Some (op, behind)
      → Fails NoMemory e (operand (depth - 1) left.names behind) → more_at meaning operand depth (depth - i) left ≡ total → Fails NoMemory e total
  unfolding more_at
  fails_at_operand e op behind lt some fails so_far = λ not.
      let none = fails not in
      let k : depth - i ≡ suc (depth - (i + 1)) = omega arith in
      let one : more_at meaning operand depth (depth - i) left ≡ None = rw (k, some, none) refl in
      sym so_far ∙ one

  -- the operation is beyond the limits
  pub fails_at_limits : (e : ExprFault) (op : Op) (behind : List Lexeme) (right : Parsed) → i < depth → first_as meaning left.rest ≡ Some (op, behind)
      → operand (depth - 1) left.names behind ≡ Some right → Fails NoMemory e (limited depth (expr.Binary op left.expr right.expr))
      → more_at meaning operand depth (depth - i) left ≡ total → Fails NoMemory e total
  unfolding more_at
  fails_at_limits e op behind right lt some read fails so_far = λ not.
      let none = fails not in
      let k : depth - i ≡ suc (depth - (i + 1)) = omega arith in
      let one : more_at meaning operand depth (depth - i) left ≡ None = rw (k, some, read, none) refl in
      sym so_far ∙ one

  -- one operand more
  pub goes_on : (op : Op) (behind : List Lexeme) (right : Parsed) (e : Expr) → i < depth → first_as meaning left.rest ≡ Some (op, behind)
      → operand (depth - 1) left.names behind ≡ Some right → limited depth (expr.Binary op left.expr right.expr) ≡ Some e
      → more_at meaning operand depth (depth - i) left ≡ total
      → more_at meaning operand depth (depth - (i + 1)) (parsed e right.names right.rest) ≡ total
  unfolding more_at
  goes_on op behind right e lt some read fits so_far =
      let k : depth - i ≡ suc (depth - (i + 1)) = omega arith in
      let one : more_at meaning operand depth (depth - i) left ≡ more_at meaning operand depth (depth - (i + 1)) (parsed e right.names right.rest)
      = rw (k, some, read, fits) refl in
      sym one ∙ so_far

-- within the levels of an expression there is one less for what its parentheses hold
pub expression_at_inner : (levels inner : ℕ) → 1 ≤ levels → inner ≡ levels - 1 → (depth : ℕ) (names : Words) (ts : List Lexeme)
    → expression_at levels depth names ts ≡ whole_at (expression_at inner) depth names ts
unfolding expression_at
expression_at_inner levels inner some is depth names ts = let k : levels ≡ suc inner = omega arith in rw k refl

-- a sum stands above its products
abbrev pub rank : Chain → ℕ
rank Sum = 1
rank Product = 0
