-- The number of an expression, from those of its parts.
use Rattle.std.proofs.Common.{◌≡◌, ◌∙◌, pos, Bool, true, false, ap, sym, cond}
use Rattle.std.specs.Ordering.{int_eq}
use Rattle.kernel_ast.specs.Arithmetic.{difference_of}
use Rattle.kernel_ast.specs.Value.{Environment, value_of, result_of, value_of-Neg, value_of-Binary, value_of-Select}
use Rattle.kernel_ast.specs.declared.expression.Op.{Op}
use Rattle.kernel_ast.specs.declared.expression.Expr.{Expr}
use Rattle.kernel_ast.specs.declared.expression.Expr.TheVariants as expr

module _ (whole : Expr) (e : Environment) where
  pub number_of_negation : (a : Expr) → whole ≡ expr.Neg a → difference_of (pos 0) (value_of a e) ≡ value_of whole e
  number_of_negation a is = sym (value_of-Neg a e) ∙ sym (ap (λ k. value_of k e) is)

  pub number_of_operation : (op : Op) (a b : Expr) → whole ≡ expr.Binary op a b → result_of op (value_of a e) (value_of b e) ≡ value_of whole e
  number_of_operation op a b is = sym (value_of-Binary op a b e) ∙ sym (ap (λ k. value_of k e) is)

  module _ (c a b : Expr) (is : whole ≡ expr.Select c a b) where
    chosen : (zero : Bool) → int_eq (value_of c e) (pos 0) ≡ zero → cond zero (value_of b e) (value_of a e) ≡ value_of whole e
    chosen zero tested =
        sym (ap (λ z. cond z (value_of b e) (value_of a e)) tested) ∙ sym (value_of-Select c a b e) ∙ sym (ap (λ k. value_of k e) is)

    pub number_of_first : int_eq (value_of c e) (pos 0) ≡ false → value_of a e ≡ value_of whole e
    number_of_first tested = chosen false tested

    pub number_of_second : int_eq (value_of c e) (pos 0) ≡ true → value_of b e ≡ value_of whole e
    number_of_second tested = chosen true tested
