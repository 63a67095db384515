-- Reading an expression from the left, token by token.
use Rattle.std.specs.Prelude.{◌≡◌, ◌≢◌, ℕ, zero, suc, ◌-◌, ◌^◌, ℤ, pos, neg_ℤ, Bool, true, false, ◌&&◌, List, [], ◌∷◌, Option, Some, None, Result, Ok, Err, nat_lt, nat_le, codes, if◌then◌else◌}
use Rattle.std.specs.Option.{option_map, option_map_or}
use Rattle.std.specs.Str.Parse.{digits_value}
use Rattle.uts_lex.specs.Lexemes.{Lexeme, is_number}
use Rattle.uts_lex.specs.Names.{number_of, with_name}
use Rattle.kernel_ast.specs.Size.{depth_of, node_count}
use Rattle.kernel_ast.specs.declared.expression.Store.{Store}
use Rattle.kernel_ast.specs.declared.expression.How.{How}
use Rattle.kernel_ast.specs.declared.expression.How.TheVariants.{Same, Coarse}
use Rattle.kernel_ast.specs.declared.expression.Op.{Op}
use Rattle.kernel_ast.specs.declared.expression.Expr.{Expr}
use Rattle.kernel_ast.specs.declared.expression.Expr.TheVariants as expr
use Rattle.kernel_parse.specs.declared.lexeme.Chain.{Chain}
use Rattle.kernel_parse.specs.declared.lexeme.Chain.TheVariants.{Sum, Product}
use Rattle.kernel_parse.specs.Signs.{is_number_kind, is_word_kind, is_word, is_sign, comparison_of, term_op_of, factor_op_of, call_of, op_of, place_of, store_of, fine_of, is_reserved}
use Rattle.kernel_parse.specs.Grammar.{Words, read_of}

infixl 10 ◌>>=◌
abbrev pub ◌>>=◌ : {A B : Type 0} → Option A → (A → Option B) → Option B
None >>= f = None
(Some x) >>= f = f x

-- A fault is want of memory, or there is nothing that reading gives.
abbrev pub Fails : {E Y : Type 0} → E → E → Option Y → Type 0
Fails memory fault read = fault ≢ memory → read ≡ None

-- What a function returned, seen by view, is what reading gives, unless memory ran out.
abbrev pub Gives : {E X Y : Type 0} → E → (X → Y) → Result X E → Option Y → Type 0
Gives memory view (Ok x) read = read ≡ Some (view x)
Gives memory view (Err fault) read = Fails memory fault read

-- ---- tokens

-- what stands behind the token, if it comes first
abbrev pub behind : (Lexeme → Bool) → List Lexeme → Option (List Lexeme)
behind test [] = None
behind test (t ∷ ts) = if test t then Some ts else None

abbrev pub behind_sign : List ℕ → List Lexeme → Option (List Lexeme)
behind_sign bytes ts = behind (is_sign bytes) ts

abbrev pub number_of_token : Lexeme → Option ℕ
number_of_token t = if is_number_kind t.kind && is_number t.bytes then Some (digits_value 10 t.bytes) else None

abbrev pub name_of_token : Lexeme → Option (List ℕ)
name_of_token t = if is_word_kind t.kind then (if is_reserved t.bytes then None else Some t.bytes) else None

-- what the first token means, and the tokens behind it
abbrev pub first_as : {A : Type 0} → (Lexeme → Option A) → List Lexeme → Option (A × List Lexeme)
first_as meaning [] = None
first_as meaning (t ∷ ts) = option_map (λ a. (a, ts)) (meaning t)

-- ---- reads

abbrev pub signed_in : Bool → ℕ → Option ℤ
signed_in true n = if nat_le n (2 ^ 63) then Some (neg_ℤ (pos n)) else None
signed_in false n = if nat_lt n (2 ^ 63) then Some (pos n) else None

abbrev pub signed_from : Bool → List Lexeme → Option (ℤ × List Lexeme)
signed_from negative ts = first_as number_of_token ts >>= λ n. option_map (λ z. (z, n.1)) (signed_in negative n.0)

unfoldable pub signed_at : List Lexeme → Option (ℤ × List Lexeme)
signed_at ts = option_map_or (λ rest. signed_from true rest) (behind_sign (codes "-") ts) (signed_from false ts)

-- the sign, and a number behind it
abbrev pub signed_behind : List ℕ → List Lexeme → Option (ℤ × List Lexeme)
signed_behind bytes ts = behind_sign bytes ts >>= λ rest. signed_at rest

unfoldable pub offset_at : List Lexeme → Option (List ℤ × List Lexeme)
offset_at ts = do
  x ← signed_behind (codes "[") ts
  y ← signed_behind (codes ",") x.1
  z ← signed_behind (codes ",") y.1
  option_map (λ rest. (x.0 ∷ y.0 ∷ z.0 ∷ [], rest)) (behind_sign (codes "]") z.1)

-- what was read, the words then, and the tokens that are left
pub record Parsed : Type 0 where
  pub expr : Expr
  pub names : Words
  pub rest : List Lexeme

abbrev pub parsed : Expr → Words → List Lexeme → Parsed
parsed e names rest = record { expr = e; names = names; rest = rest }

-- `.NAME`
unfoldable pub dot_name_at : List Lexeme → Option (List ℕ × List Lexeme)
dot_name_at ts = behind_sign (codes ".") ts >>= λ rest. first_as name_of_token rest

-- a read of a name at an offset, if one stands there
abbrev pub read_by : Store → How → Words → List ℕ → List Lexeme → Option Parsed
read_by store how names name ts =
    option_map (λ by. parsed (read_of store how names name by.0) (with_name names name) by.1) (offset_at ts)

abbrev pub fine_at : Store → How → Words → List Lexeme → Option Parsed
fine_at store how names ts =
    option_map (λ name. parsed (read_of store how names name.0 (pos 0 ∷ pos 0 ∷ pos 0 ∷ [])) (with_name names name.0) name.1) (dot_name_at ts)

abbrev pub coarse_at : Store → Words → List Lexeme → Option Parsed
coarse_at store names ts = dot_name_at ts >>= λ name. read_by store Coarse names name.0 name.1

-- `[` makes it a read with an offset, and without it it is a reduction
abbrev pub number_or_read : Store → Words → List ℕ → List Lexeme → Option Parsed
number_or_read store names name ts =
    option_map_or (λ _. read_by store Same names name ts) (behind_sign (codes "[") ts)
    (Some (parsed (expr.Number store (number_of names name)) (with_name names name) ts))

abbrev pub own_at : Store → Words → List Lexeme → Option Parsed
own_at store names ts = first_as name_of_token ts >>= λ name. number_or_read store names name.0 name.1

-- what stands behind the dot of a store
unfoldable pub variable_at : Store → Words → List Lexeme → Option Parsed
variable_at store names ts =
    option_map_or (λ rest. coarse_at store names rest) (behind (is_word (codes "coarse")) ts)
    (option_map_or (λ kind. fine_at store kind.0 names kind.1) (first_as fine_of ts) (own_at store names ts))

-- a dot, and what stands behind it
abbrev pub dot_variable_at : Store → Words → List Lexeme → Option Parsed
dot_variable_at store names ts = behind_sign (codes ".") ts >>= λ rest. variable_at store names rest

unfoldable pub read_at : Words → List Lexeme → Option Parsed
read_at names ts = first_as store_of ts >>= λ store. dot_variable_at store.0 names store.1

-- ---- operators

-- an expression with no parts
pub record IsLeaf (e : Expr) : Type 0 where
  pub deep : depth_of e ≡ 1
  pub wide : node_count e ≡ 1

-- an expression within the limits
abbrev pub limited : ℕ → Expr → Option Expr
limited depth e = if nat_le (depth_of e) depth && nat_le (node_count e) 256 then Some e else None

-- The reading of a form of expression at most so deep
abbrev pub Reader : Type 0
Reader = ℕ → Words → List Lexeme → Option Parsed

-- the expression, if it is within the limits
abbrev pub sized : ℕ → Expr → Words → List Lexeme → Option Parsed
sized depth e names rest = option_map (λ x. parsed x names rest) (limited depth e)

abbrev pub joined : ℕ → Op → Parsed → Parsed → Option Parsed
joined depth op left right = sized depth (expr.Binary op left.expr right.expr) right.names right.rest

-- the operator and one more operand, so many times at most
unfoldable pub more_at : (Lexeme → Option Op) → Reader → (depth passes : ℕ) → Parsed → Option Parsed
more_at meaning operand depth zero left = None
more_at meaning operand depth (suc passes) left =
    option_map_or (λ op. operand (depth - 1) left.names op.1 >>= (λ right. joined depth op.0 left right >>= (λ next. more_at meaning operand depth passes next)))
    (first_as meaning left.rest) (Some left)

-- operands and operators between them, grouped from the left
abbrev pub chain_at : (Lexeme → Option Op) → Reader → Reader
chain_at meaning operand depth names ts = operand depth names ts >>= λ first. more_at meaning operand depth depth first

abbrev pub negation_of : ℕ → Parsed → Option Parsed
negation_of depth part = sized depth (expr.Neg part.expr) part.names part.rest

unfoldable pub unary_at : Reader → Reader
unary_at primary zero names ts = None
unary_at primary (suc depth) names ts =
    option_map_or (λ rest. unary_at primary depth names rest >>= (λ part. negation_of (suc depth) part)) (behind_sign (codes "-") ts)
    (primary (suc depth) names ts)

-- ---- what holds an expression in parentheses, each read by `inner`

-- the sign, and an expression behind it
abbrev pub behind_sign_at : List ℕ → Reader → Reader
behind_sign_at bytes inner depth names ts = behind_sign bytes ts >>= λ rest. inner depth names rest

-- `)`, where the expression is within the limits
abbrev pub closed : ℕ → Expr → Words → List Lexeme → Option Parsed
closed depth e names ts = behind_sign (codes ")") ts >>= λ rest. sized depth e names rest

abbrev pub group_at : Reader → Reader
group_at inner depth names ts = inner depth names ts >>= λ e. option_map (λ rest. parsed e.expr e.names rest) (behind_sign (codes ")") e.rest)

unfoldable pub call_at : Reader → Op → Reader
call_at inner op depth names ts = do
  x ← behind_sign_at (codes "(") inner (depth - 1) names ts
  y ← behind_sign_at (codes ",") inner (depth - 1) x.names x.rest
  closed depth (expr.Binary op x.expr y.expr) y.names y.rest

unfoldable pub select_at : Reader → Reader
select_at inner depth names ts = do
  x ← behind_sign_at (codes "(") inner (depth - 1) names ts
  y ← behind_sign_at (codes ",") inner (depth - 1) x.names x.rest
  z ← behind_sign_at (codes ",") inner (depth - 1) y.names y.rest
  closed depth (expr.Select x.expr y.expr z.expr) z.names z.rest

abbrev pub literal_of : ℕ → Option Expr
literal_of n = if nat_lt n (2 ^ 63) then Some (expr.Literal (pos n)) else None

-- a number or a place
abbrev pub atom_of : Lexeme → Option Expr
atom_of t = option_map_or literal_of (number_of_token t) (place_of t)

unfoldable pub leaf_at : Words → List Lexeme → Option Parsed
leaf_at names ts = option_map_or (λ e. Some (parsed e.0 names e.1)) (first_as atom_of ts) (read_at names ts)

unfoldable pub primary_at : Reader → Reader
primary_at inner zero names ts = None
primary_at inner (suc depth) names ts =
    option_map_or (λ rest. group_at inner (suc depth) names rest) (behind_sign (codes "(") ts)
    (option_map_or (λ op. call_at inner op.0 (suc depth) names op.1) (first_as call_of ts)
    (option_map_or (λ rest. select_at inner (suc depth) names rest) (behind (is_word (codes "select")) ts)
    (leaf_at names ts)))

abbrev pub product_at : Reader → Reader
product_at inner = chain_at factor_op_of (unary_at (primary_at inner))

abbrev pub sum_at : Reader → Reader
sum_at inner = chain_at term_op_of (product_at inner)

-- the operands of a chain
abbrev pub operand_at : Chain → Reader → Reader
operand_at Sum inner = product_at inner
operand_at Product inner = unary_at (primary_at inner)

-- a sum or a product
abbrev pub chain_of : Chain → Reader → Reader
chain_of chain inner = chain_at (op_of chain) (operand_at chain inner)

-- one comparison at most
abbrev pub comparison_at : Reader → ℕ → Parsed → Option Parsed
comparison_at inner depth left =
    option_map_or (λ op. sum_at inner (depth - 1) left.names op.1 >>= (λ right. joined depth op.0 left right))
    (first_as comparison_of left.rest) (Some left)

abbrev pub whole_at : Reader → Reader
whole_at inner depth names ts = sum_at inner depth names ts >>= λ left. comparison_at inner depth left

-- an expression within so many levels of parentheses, its own among them
unfoldable pub expression_at : ℕ → Reader
expression_at zero depth names ts = None
expression_at (suc levels) depth names ts = whole_at (expression_at levels) depth names ts

abbrev pub if_empty : {A : Type 0} → List Lexeme → A → Option A
if_empty [] a = Some a
if_empty (t ∷ ts) a = None

-- all of the tokens
abbrev pub all_of : Words → List Lexeme → Option Parsed
all_of names ts = expression_at 65 64 names ts >>= λ e. if_empty e.rest e
