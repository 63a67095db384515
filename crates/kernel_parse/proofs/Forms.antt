-- What is spelled is in form, over as many names as there are then.
use Rattle.std.proofs.Common.{◌≡◌, ℕ, ◌+◌, ◌≤◌, Bool, true, false, List, [], length, Some, refl, ◌∙◌, pos, arith}
use Rattle.std.specs.Prelude.{◌&&◌, ◌||◌, not, nat_lt, int_le}
use Rattle.std.proofs.lemmas.Bool.Decides.{nat_tests}
use Rattle.std.proofs.lemmas.List.{length-append}
use Rattle.uts_lex.specs.declared.token.Kind.TheVariants.{Word}
use Rattle.uts_lex.specs.Lexemes.{Lexeme}
use Rattle.uts_lex.specs.Names.{number_of, with_name}
use Rattle.uts_lex.specs.NameNumbers.{number_below}
use Rattle.kernel_ast.specs.Form.{are_leaves_in_form, is_fine, IsWithin, IsExpressionInForm, are_leaves_in_form-Literal, are_leaves_in_form-X, are_leaves_in_form-Y, are_leaves_in_form-Z, are_leaves_in_form-Level, are_leaves_in_form-Material, are_leaves_in_form-Step, are_leaves_in_form-Read, are_leaves_in_form-Number, are_leaves_in_form-Neg, are_leaves_in_form-Binary, are_leaves_in_form-Select}
use Rattle.kernel_ast.specs.declared.expression.Op.{Op}
use Rattle.kernel_ast.specs.declared.expression.Expr.{Expr}
use Rattle.kernel_ast.specs.declared.expression.Expr.TheVariants as expr
use Rattle.kernel_parse.specs.Signs.{place_words, place_of}
use Rattle.kernel_parse.specs.Tables.{meaning_case}
use Rattle.kernel_parse.specs.Grammar.{Words, SpellsRead, own, coarse, fine, reduction, Form, Spells, one_sum, compared, one_product, added, one_unary, multiplied, one_primary, negated, literal, place, read, grouped, called, selected, SpellsExpression}
use Rattle.kernel_parse.specs.Reading.{parsed, all_of}
use Rattle.kernel_parse.specs.Source.{Extends}
use Rattle.kernel_parse.specs.SourceLaws.{Extends_refl, Extends_trans, Extends_with_name, length_with_name}
use Rattle.kernel_parse.proofs.Sound.{all_spelled}

-- the leaves are in form over each number of names from so many on
abbrev InForm : Words → Expr → Words → Type 0
InForm names e after = (length names ≤ length after) × ((n : ℕ) → length after ≤ n → are_leaves_in_form n e ≡ true)

both_true : (a b : Bool) → a ≡ true → b ≡ true → (a && b) ≡ true
both_true a b p q = rw (p, q) refl

-- the number of a name stands below the words behind it
name_in : (names : Words) (name : List ℕ) (n : ℕ) → length (with_name names name) ≤ n → nat_lt (number_of names name) n ≡ true
name_in names name n le = let below = (number_below names name).0 in grind (arith, nat_tests, below)

read_in_form : {ts : List Lexeme} {names : Words} {e : Expr} {after : Words} → SpellsRead ts names e after → InForm names e after
read_in_form (own names at store name ts by is_store free spelled) =
    ((number_below names name).1, λ n le. are_leaves_in_form-Read n _ ∙ both_true _ _ (name_in names name n le) refl)
read_in_form (coarse names at store name ts by is_store free spelled) =
    ((number_below names name).1, λ n le. are_leaves_in_form-Read n _ ∙ both_true _ _ (name_in names name n le) refl)
read_in_form (fine names at kind store how name is_store is_fine_how free) =
    ((number_below names name).1, λ n le. are_leaves_in_form-Read n _ ∙ both_true _ _ (name_in names name n le) (zero_offset (is_fine how)))
  where
    zero_offset : (b : Bool) → (not b || true) ≡ true
    zero_offset true = refl
    zero_offset false = refl
read_in_form (reduction names at store name is_store free) =
    ((number_below names name).1, λ n le. are_leaves_in_form-Number n store _ ∙ name_in names name n le)

place_in_form : (n : ℕ) (at : Lexeme) (e : Expr) → place_of at ≡ Some e → are_leaves_in_form n e ≡ true
place_in_form n at e is = meaning_case Word (λ (t : Lexeme) (e : Expr). are_leaves_in_form n e ≡ true) place_words at e is
    (are_leaves_in_form-X n, (are_leaves_in_form-Y n, (are_leaves_in_form-Z n, (are_leaves_in_form-Level n, (are_leaves_in_form-Material n, (are_leaves_in_form-Step n, tt))))))

binary_in_form : (names between after : Words) (op : Op) (a b : Expr) → InForm names a between → InForm between b after → InForm names (expr.Binary op a b) after
binary_in_form names between after op a b f g =
    (omega (arith, f.0, g.0), λ n le. are_leaves_in_form-Binary n op a b ∙ both_true _ _ (f.1 n (omega (arith, g.0))) (g.1 n le))

from_zero : (n : ℕ) → int_le (pos 0) (pos n) ≡ true
from_zero n = let le : 0 ≤ n = omega arith in grind (arith, nat_tests)

spelled_in_form : {form : Form} {room : ℕ} {ts : List Lexeme} {names : Words} {e : Expr} {after : Words} → Spells form room ts names e after → InForm names e after
spelled_in_form (one_sum room ts names after a s) = spelled_in_form s
spelled_in_form (compared room ts us names between after a b at op s is t) = binary_in_form names between after op a b (spelled_in_form s) (spelled_in_form t)
spelled_in_form (one_product room ts names after a s) = spelled_in_form s
spelled_in_form (added room ts us names between after a b at op s is t) = binary_in_form names between after op a b (spelled_in_form s) (spelled_in_form t)
spelled_in_form (one_unary room ts names after a s) = spelled_in_form s
spelled_in_form (multiplied room ts us names between after a b at op s is t) = binary_in_form names between after op a b (spelled_in_form s) (spelled_in_form t)
spelled_in_form (one_primary room ts names after a s) = spelled_in_form s
spelled_in_form (negated room ts names after a s) = let f = spelled_in_form s in (f.0, λ n le. are_leaves_in_form-Neg n a ∙ f.1 n le)
spelled_in_form (literal room names n small) = (omega arith, λ m le. are_leaves_in_form-Literal m (pos n) ∙ from_zero n)
spelled_in_form (place room names at e is) = (omega arith, λ n le. place_in_form n at e is)
spelled_in_form (read room ts names after e r) = read_in_form r
spelled_in_form (grouped room ts names after e s) = spelled_in_form s
spelled_in_form (called room ts us names between after a b at op is s t) = binary_in_form names between after op a b (spelled_in_form s) (spelled_in_form t)
spelled_in_form (selected room ts us vs names one two after c a b s t u) =
    let f = spelled_in_form s in
    let g = spelled_in_form t in
    let h = spelled_in_form u in
    (omega (arith, f.0, g.0, h.0), λ n le. are_leaves_in_form-Select n c a b ∙ both_true _ _ (both_true _ _ (f.1 n (omega (arith, g.0, h.0))) (g.1 n (omega (arith, h.0)))) (h.1 n le))

pub expression_in_form : (ts : List Lexeme) (names after : Words) (e : Expr) (known : ℕ) → SpellsExpression ts names e after → length after ≤ known → IsExpressionInForm known e
expression_in_form ts names after e known s within =
    record { shallow = s.shallow; few_nodes = s.few_nodes; leaves = (spelled_in_form s.spelled).1 known within }

-- so is what all of the tokens are read as
pub all_in_form : (names after : Words) (ts : List Lexeme) (e : Expr) → all_of names ts ≡ Some (parsed e after []) → IsWithin (length after) 64 256 e
all_in_form names after ts e is = expression_in_form ts names after e (length after) (all_spelled names after ts e is) (omega arith)

-- ---- the words behind

-- the words before stay, and no more than so many are new
abbrev Keeps : Words → ℕ → Words → Type 0
Keeps names tokens after = Extends names after × (length after ≤ length names + tokens)

keeps_none : (names : Words) (tokens : ℕ) → Keeps names tokens names
keeps_none names tokens = (Extends_refl names, omega arith)

keeps_name : (names : Words) (name : List ℕ) (tokens : ℕ) → 1 ≤ tokens → Keeps names tokens (with_name names name)
keeps_name names name tokens some = (Extends_with_name names name, omega (arith, length_with_name names name))

keeps_both : (names between after : Words) (a b tokens : ℕ) → Keeps names a between → Keeps between b after → a + b ≤ tokens → Keeps names tokens after
keeps_both names between after a b tokens f g le = (Extends_trans names between after f.0 g.0, omega (arith, f.1, g.1))

keeps_more : (names after : Words) (a tokens : ℕ) → Keeps names a after → a ≤ tokens → Keeps names tokens after
keeps_more names after a tokens f le = (f.0, omega (arith, f.1))

read_keeps : {ts : List Lexeme} {names : Words} {e : Expr} {after : Words} → SpellsRead ts names e after → Keeps names (length ts) after
read_keeps (own names at store name ts by is_store free spelled) = keeps_name names name _ (omega arith)
read_keeps (coarse names at store name ts by is_store free spelled) = keeps_name names name _ (omega arith)
read_keeps (fine names at kind store how name is_store is_fine_how free) = keeps_name names name _ (omega arith)
read_keeps (reduction names at store name is_store free) = keeps_name names name _ (omega arith)

keeps : {form : Form} {room : ℕ} {ts : List Lexeme} {names : Words} {e : Expr} {after : Words} → Spells form room ts names e after → Keeps names (length ts) after
keeps (one_sum room ts names after a s) = keeps s
keeps (compared room ts us names between after a b at op s is t) = keeps_both names between after (length ts) (length us) _ (keeps s) (keeps t) (simp length-append (omega arith))
keeps (one_product room ts names after a s) = keeps s
keeps (added room ts us names between after a b at op s is t) = keeps_both names between after (length ts) (length us) _ (keeps s) (keeps t) (simp length-append (omega arith))
keeps (one_unary room ts names after a s) = keeps s
keeps (multiplied room ts us names between after a b at op s is t) = keeps_both names between after (length ts) (length us) _ (keeps s) (keeps t) (simp length-append (omega arith))
keeps (one_primary room ts names after a s) = keeps s
keeps (negated room ts names after a s) = keeps_more names after (length ts) _ (keeps s) (omega arith)
keeps (literal room names n small) = keeps_none names _
keeps (place room names at e is) = keeps_none names _
keeps (read room ts names after e r) = read_keeps r
keeps (grouped room ts names after e s) = keeps_more names after (length ts) _ (keeps s) (simp length-append (omega arith))
keeps (called room ts us names between after a b at op is s t) = keeps_both names between after (length ts) (length us) _ (keeps s) (keeps t) (simp length-append (omega arith))
keeps (selected room ts us vs names one two after c a b s t u) =
    keeps_both names one after (length ts) (length us + length vs) _ (keeps s) (keeps_both one two after (length us) (length vs) (length us + length vs) (keeps t) (keeps u) (omega arith)) (simp length-append (omega arith))

pub words_kept : (ts : List Lexeme) (names after : Words) (e : Expr) → SpellsExpression ts names e after → Extends names after × (length after ≤ length names + length ts)
words_kept ts names after e s = keeps s.spelled
