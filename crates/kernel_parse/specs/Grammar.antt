-- How an expression is spelled, by tokens.
use Rattle.std.specs.Prelude.{◌≡◌, ℕ, suc, ◌<◌, ◌≤◌, ◌^◌, ℤ, pos, neg_ℤ, false, List, [], ◌∷◌, ◌++◌, Some, codes}
use Rattle.uts_lex.specs.Lexemes.{Lexeme}
use Rattle.uts_lex.specs.Names.{number_of, with_name}
use Rattle.kernel_ast.specs.Size.{depth_of, node_count}
use Rattle.kernel_ast.specs.declared.expression.Store.{Store}
use Rattle.kernel_ast.specs.declared.expression.How.{How}
use Rattle.kernel_ast.specs.declared.expression.How.TheVariants.{Same, Coarse}
use Rattle.kernel_ast.specs.declared.expression.Op.{Op}
use Rattle.kernel_ast.specs.declared.expression.Expr.{Expr}
use Rattle.kernel_ast.specs.declared.expression.Expr.TheVariants as expr
use Rattle.kernel_parse.specs.Signs.{word, number, sign, comparison_of, term_op_of, factor_op_of, call_of, place_of, store_of, fine_of, is_reserved}

-- the words of a text, in the order of their first appearance
abbrev pub Words : Type 0
Words = List (List ℕ)

-- a number or `-` and a number, from -2^63 to 2^63 - 1
pub data SpellsSigned : List Lexeme → ℤ → Type 0 where
  plain : (n : ℕ) → n < 2 ^ 63 → SpellsSigned (number n ∷ []) (pos n)
  below_zero : (n : ℕ) → n ≤ 2 ^ 63 → SpellsSigned (sign (codes "-") ∷ number n ∷ []) (neg_ℤ (pos n))

-- `[S,S,S]`
pub data SpellsOffset : List Lexeme → List ℤ → Type 0 where
  offset : (xs ys zs : List Lexeme) (x y z : ℤ) → SpellsSigned xs x → SpellsSigned ys y → SpellsSigned zs z
      → SpellsOffset (sign (codes "[") ∷ xs ++ sign (codes ",") ∷ ys ++ sign (codes ",") ∷ zs ++ sign (codes "]") ∷ []) (x ∷ y ∷ z ∷ [])

-- the read of a name, which is numbered if it has not been named before
abbrev pub read_of : Store → How → Words → List ℕ → List ℤ → Expr
read_of store how names name by = expr.Read (record { store = store; how = how; name = number_of names name; offset = by })

-- Reads of a store: `STORE.NAME[S,S,S]`, `STORE.coarse.NAME[S,S,S]`, `STORE.fine_sum.NAME` and its like, and
-- `STORE.NAME`, which is a reduction. A name is a word that is not reserved.
pub data SpellsRead : List Lexeme → Words → Expr → Words → Type 0 where
  own : (names : Words) (at : Lexeme) (store : Store) (name : List ℕ) (ts : List Lexeme) (by : List ℤ)
      → store_of at ≡ Some store → is_reserved name ≡ false → SpellsOffset ts by
      → SpellsRead (at ∷ sign (codes ".") ∷ word name ∷ ts) names (read_of store Same names name by) (with_name names name)
  coarse : (names : Words) (at : Lexeme) (store : Store) (name : List ℕ) (ts : List Lexeme) (by : List ℤ)
      → store_of at ≡ Some store → is_reserved name ≡ false → SpellsOffset ts by
      → SpellsRead (at ∷ sign (codes ".") ∷ word (codes "coarse") ∷ sign (codes ".") ∷ word name ∷ ts) names
      (read_of store Coarse names name by) (with_name names name)
  fine : (names : Words) (at kind : Lexeme) (store : Store) (how : How) (name : List ℕ)
      → store_of at ≡ Some store → fine_of kind ≡ Some how → is_reserved name ≡ false
      → SpellsRead (at ∷ sign (codes ".") ∷ kind ∷ sign (codes ".") ∷ word name ∷ []) names
      (read_of store how names name (pos 0 ∷ pos 0 ∷ pos 0 ∷ [])) (with_name names name)
  reduction : (names : Words) (at : Lexeme) (store : Store) (name : List ℕ)
      → store_of at ≡ Some store → is_reserved name ≡ false
      → SpellsRead (at ∷ sign (codes ".") ∷ word name ∷ []) names
      (expr.Number store (number_of names name)) (with_name names name)

-- the forms of an expression, from the one that binds least
pub data Form : Type 0 where
  whole : Form
  sum : Form
  product : Form
  unary : Form
  primary : Form

-- The tokens spell the expression in this form, where so many parentheses may be open at once. The words before it
-- become the words behind it.
pub data Spells : Form → ℕ → List Lexeme → Words → Expr → Words → Type 0 where
  -- a comparison stands alone: it is no side of another
  one_sum : (room : ℕ) (ts : List Lexeme) (names after : Words) (a : Expr)
      → Spells sum room ts names a after → Spells whole room ts names a after
  compared : (room : ℕ) (ts us : List Lexeme) (names between after : Words) (a b : Expr) (at : Lexeme) (op : Op)
      → Spells sum room ts names a between → comparison_of at ≡ Some op → Spells sum room us between b after
      → Spells whole room (ts ++ at ∷ us) names (expr.Binary op a b) after
  -- sums and products are grouped from the left
  one_product : (room : ℕ) (ts : List Lexeme) (names after : Words) (a : Expr)
      → Spells product room ts names a after → Spells sum room ts names a after
  added : (room : ℕ) (ts us : List Lexeme) (names between after : Words) (a b : Expr) (at : Lexeme) (op : Op)
      → Spells sum room ts names a between → term_op_of at ≡ Some op → Spells product room us between b after
      → Spells sum room (ts ++ at ∷ us) names (expr.Binary op a b) after
  one_unary : (room : ℕ) (ts : List Lexeme) (names after : Words) (a : Expr)
      → Spells unary room ts names a after → Spells product room ts names a after
  multiplied : (room : ℕ) (ts us : List Lexeme) (names between after : Words) (a b : Expr) (at : Lexeme) (op : Op)
      → Spells product room ts names a between → factor_op_of at ≡ Some op → Spells unary room us between b after
      → Spells product room (ts ++ at ∷ us) names (expr.Binary op a b) after
  one_primary : (room : ℕ) (ts : List Lexeme) (names after : Words) (a : Expr)
      → Spells primary room ts names a after → Spells unary room ts names a after
  negated : (room : ℕ) (ts : List Lexeme) (names after : Words) (a : Expr)
      → Spells unary room ts names a after → Spells unary room (sign (codes "-") ∷ ts) names (expr.Neg a) after
  literal : (room : ℕ) (names : Words) (n : ℕ) → n < 2 ^ 63
      → Spells primary room (number n ∷ []) names (expr.Literal (pos n)) names
  place : (room : ℕ) (names : Words) (at : Lexeme) (e : Expr) → place_of at ≡ Some e
      → Spells primary room (at ∷ []) names e names
  read : (room : ℕ) (ts : List Lexeme) (names after : Words) (e : Expr) → SpellsRead ts names e after
      → Spells primary room ts names e after
  grouped : (room : ℕ) (ts : List Lexeme) (names after : Words) (e : Expr)
      → Spells whole room ts names e after
      → Spells primary (suc room) (sign (codes "(") ∷ ts ++ sign (codes ")") ∷ []) names e after
  called : (room : ℕ) (ts us : List Lexeme) (names between after : Words) (a b : Expr) (at : Lexeme) (op : Op)
      → call_of at ≡ Some op → Spells whole room ts names a between → Spells whole room us between b after
      → Spells primary (suc room) (at ∷ sign (codes "(") ∷ ts ++ sign (codes ",") ∷ us ++ sign (codes ")") ∷ []) names
      (expr.Binary op a b) after
  selected : (room : ℕ) (ts us vs : List Lexeme) (names first second after : Words) (c a b : Expr)
      → Spells whole room ts names c first → Spells whole room us first a second → Spells whole room vs second b after
      → Spells primary (suc room)
      (word (codes "select") ∷ sign (codes "(") ∷ ts ++ sign (codes ",") ∷ us ++ sign (codes ",") ∷ vs ++ sign (codes ")") ∷ [])
      names (expr.Select c a b) after

-- The tokens are this expression, at most 64 deep and of at most 256 nodes, with at most 64 parentheses open at once.
pub record SpellsExpression (tokens : List Lexeme) (names : Words) (e : Expr) (after : Words) : Type 0 where
  pub spelled : Spells whole 64 tokens names e after
  pub shallow : depth_of e ≤ 64
  pub few_nodes : node_count e ≤ 256
