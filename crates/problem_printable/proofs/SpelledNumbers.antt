-- The numbers of what is spelled have 64 bits.
use Rattle.std.proofs.Common.{◌≡◌, ℕ, ◌<◌, ◌^◌, ℤ, pos, neg_ℤ, zero, suc, Bool, true, Some, ◌&&◌, refl, ◌∙◌, List, arith}
use Rattle.std.specs.Prelude.{int_le, int_lt, FitsSigned, IsTrue}
use Rattle.std.specs.Int.{w64}
use Rattle.std.proofs.lemmas.Bool.Decides.{nat_tests}
use Rattle.std.proofs.lemmas.Int.{ints}
use Rattle.uts_lex.specs.Lexemes.{Lexeme}
use Rattle.kernel_ast.specs.declared.expression.Op.{Op}
use Rattle.kernel_ast.specs.declared.expression.Expr.{Expr}
use Rattle.kernel_ast.specs.declared.expression.Expr.TheVariants as expr
use Rattle.kernel_parse.specs.Signs.{place_of, place_words}
use Rattle.kernel_parse.specs.Grammar.{Words, SpellsSigned, plain, below_zero, SpellsOffset, offset, SpellsRead, own, coarse, fine, reduction, Form, Spells, one_sum, compared, one_product, added, one_unary, multiplied, one_primary, negated, literal, place, read, grouped, called, selected, SpellsExpression}
use Rattle.problem_printable.specs.Printable.{is_offset, expression_fits}
use Rattle.problem_printable.proofs.Forms.{expression_fits-Literal, expression_fits-X, expression_fits-Y, expression_fits-Z, expression_fits-Level, expression_fits-Material, expression_fits-Step, expression_fits-Read, expression_fits-Number, expression_fits-Neg, expression_fits-Binary, expression_fits-Select}
use Rattle.problem_printable.proofs.Meanings.{meaning_case}

both_true : (a b : Bool) → a ≡ true → b ≡ true → (a && b) ≡ true
both_true a b p q = rw (p, q) refl

signed_fits : {ts : List Lexeme} {z : ℤ} → SpellsSigned ts z → (int_le (neg_ℤ (pos (2 ^ 63))) z ≡ true) × (int_lt z (pos (2 ^ 63)) ≡ true)
signed_fits (plain n small) = (refl, grind (arith, nat_tests))
signed_fits (below_zero zero small) = (refl, refl)
signed_fits (below_zero (suc n) small) = (grind (arith, nat_tests, ints), refl)

pub signed_in_range : {ts : List Lexeme} {z : ℤ} → SpellsSigned ts z → FitsSigned w64 z
signed_in_range (plain n small) = grind (arith, ints)
signed_in_range (below_zero zero small) = grind (arith, ints)
signed_in_range (below_zero (suc n) small) = grind (arith, ints)

offset_fits : {ts : List Lexeme} {by : List ℤ} → SpellsOffset ts by → is_offset by ≡ true
offset_fits (offset xs ys zs x y z s t u) =
    let a = signed_fits s in
    let b = signed_fits t in
    let c = signed_fits u in
    rw (a.0, a.1, b.0, b.1, c.0, c.1) refl

read_fits : {ts : List Lexeme} {names : Words} {e : Expr} {after : Words} → SpellsRead ts names e after → expression_fits e ≡ true
read_fits (own names at store name ts by is_store free spelled) = expression_fits-Read _ ∙ offset_fits spelled
read_fits (coarse names at store name ts by is_store free spelled) = expression_fits-Read _ ∙ offset_fits spelled
read_fits (fine names at kind store how name is_store is_fine_how free) = expression_fits-Read _ ∙ refl
read_fits (reduction names at store name is_store free) = expression_fits-Number store _

place_fits : (at : Lexeme) (e : Expr) → place_of at ≡ Some e → expression_fits e ≡ true
place_fits at e is = meaning_case (λ e. expression_fits e ≡ true) place_words at e is
    (expression_fits-X, (expression_fits-Y, (expression_fits-Z, (expression_fits-Level, (expression_fits-Material, (expression_fits-Step, tt))))))

binary_fits : (op : Op) (a b : Expr) → expression_fits a ≡ true → expression_fits b ≡ true → expression_fits (expr.Binary op a b) ≡ true
binary_fits op a b p q = expression_fits-Binary op a b ∙ both_true _ _ p q

literal_fits : (n : ℕ) → n < 2 ^ 63 → int_lt (pos n) (pos (2 ^ 63)) ≡ true
literal_fits n small = grind (arith, nat_tests)

part_fits : {form : Form} {room : ℕ} {ts : List Lexeme} {names : Words} {e : Expr} {after : Words} → Spells form room ts names e after
    → expression_fits e ≡ true
part_fits (one_sum room ts names after a s) = part_fits s
part_fits (compared room ts us names between after a b at op s is t) = binary_fits op a b (part_fits s) (part_fits t)
part_fits (one_product room ts names after a s) = part_fits s
part_fits (added room ts us names between after a b at op s is t) = binary_fits op a b (part_fits s) (part_fits t)
part_fits (one_unary room ts names after a s) = part_fits s
part_fits (multiplied room ts us names between after a b at op s is t) = binary_fits op a b (part_fits s) (part_fits t)
part_fits (one_primary room ts names after a s) = part_fits s
part_fits (negated room ts names after a s) = expression_fits-Neg a ∙ part_fits s
part_fits (literal room names n small) = expression_fits-Literal (pos n) ∙ literal_fits n small
part_fits (place room names at e is) = place_fits at e is
part_fits (read room ts names after e r) = read_fits r
part_fits (grouped room ts names after e s) = part_fits s
part_fits (called room ts us names between after a b at op is s t) = binary_fits op a b (part_fits s) (part_fits t)
part_fits (selected room ts us vs names one two after c a b s t u) =
    expression_fits-Select c a b ∙ both_true _ _ (part_fits s) (both_true _ _ (part_fits t) (part_fits u))

pub numbers_fit : {ts : List Lexeme} {names : Words} {e : Expr} {after : Words} → SpellsExpression ts names e after → IsTrue (expression_fits e)
numbers_fit s = part_fits s.spelled
