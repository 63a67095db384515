-- The tokens that expressions are written with.
use Rattle.std.specs.Prelude.{ℕ, Bool, true, false, ◌&&◌, List, ◌∷◌, [], Option, Some, None, codes, decimal, if◌then◌else◌}
use Rattle.std.specs.Borrow.{Bor}
use Rattle.std.specs.List.{list_any}
use Rattle.std.specs.Str.{bytes_eq}
use Rattle.uts_lex.specs.declared.token.Kind.{Kind}
use Rattle.uts_lex.specs.declared.token.Kind.TheVariants.{Word, Number, Sign}
use Rattle.uts_lex.specs.Lexemes.{Lexeme, lexeme}
use Rattle.kernel_ast.specs.declared.expression.Store.{Store}
use Rattle.kernel_ast.specs.declared.expression.Store.TheVariants as store
use Rattle.kernel_ast.specs.declared.expression.How.{How}
use Rattle.kernel_ast.specs.declared.expression.How.TheVariants as how
use Rattle.kernel_ast.specs.declared.expression.Op.{Op}
use Rattle.kernel_ast.specs.declared.expression.Op.TheVariants as op
use Rattle.kernel_ast.specs.declared.expression.Expr.{Expr}
use Rattle.kernel_ast.specs.declared.expression.Expr.TheVariants as expr
use Rattle.kernel_parse.specs.declared.lexeme.Chain.{Chain}
use Rattle.kernel_parse.specs.declared.lexeme.Chain.TheVariants.{Sum, Product}

abbrev pub word : List ℕ → Lexeme
word bytes = lexeme Word bytes

abbrev pub number : ℕ → Lexeme
number n = lexeme Number (decimal n)

abbrev pub sign : List ℕ → Lexeme
sign bytes = lexeme Sign bytes

abbrev pub is_word_kind : Kind → Bool
is_word_kind Word = true
is_word_kind Number = false
is_word_kind Sign = false

abbrev pub is_number_kind : Kind → Bool
is_number_kind Word = false
is_number_kind Number = true
is_number_kind Sign = false

abbrev pub is_sign_kind : Kind → Bool
is_sign_kind Word = false
is_sign_kind Number = false
is_sign_kind Sign = true

abbrev pub is_kind : Kind → Kind → Bool
is_kind Word kind = is_word_kind kind
is_kind Number kind = is_number_kind kind
is_kind Sign kind = is_sign_kind kind

-- whether the token is of the kind, and of these bytes
abbrev pub is_lexeme : Kind → List ℕ → Lexeme → Bool
is_lexeme kind bytes token = is_kind kind token.kind && bytes_eq token.bytes bytes

-- whether the token is this word
abbrev pub is_word : List ℕ → Lexeme → Bool
is_word bytes token = is_lexeme Word bytes token

-- whether the token is this sign
abbrev pub is_sign : List ℕ → Lexeme → Bool
is_sign bytes token = is_lexeme Sign bytes token

-- what the token means, by a table of tokens of a kind
abbrev pub meaning_of : {A : Type 0} → Kind → List (List ℕ × A) → Lexeme → Option A
meaning_of kind [] token = None
meaning_of kind (entry ∷ table) token = if is_lexeme kind entry.0 token then Some entry.1 else meaning_of kind table token

-- by a table of words
abbrev pub meaning_in : {A : Type 0} → List (List ℕ × A) → Lexeme → Option A
meaning_in table token = meaning_of Word table token

-- a line of a table, of bytes that the code refers to
abbrev pub entry_of : {A : Type 0} → Bor (List ℕ) × A → List ℕ × A
entry_of entry = (entry.0.now, entry.1)

abbrev pub comparison_signs : List (List ℕ × Op)
comparison_signs =
    (codes "<", op.Lt)
    ∷ (codes "<=", op.Le)
    ∷ (codes ">", op.Gt)
    ∷ (codes ">=", op.Ge)
    ∷ (codes "==", op.Eq)
    ∷ (codes "!=", op.Ne)
    ∷ []

abbrev pub comparison_of : Lexeme → Option Op
comparison_of token = meaning_of Sign comparison_signs token

abbrev pub term_signs : List (List ℕ × Op)
term_signs = (codes "+", op.Add) ∷ (codes "-", op.Sub) ∷ []

abbrev pub term_op_of : Lexeme → Option Op
term_op_of token = meaning_of Sign term_signs token

abbrev pub factor_signs : List (List ℕ × Op)
factor_signs = (codes "*", op.Mul) ∷ (codes "/", op.Div) ∷ (codes "%", op.Rem) ∷ []

abbrev pub factor_op_of : Lexeme → Option Op
factor_op_of token = meaning_of Sign factor_signs token

-- the words before two arguments
abbrev pub call_words : List (List ℕ × Op)
call_words = (codes "min", op.Min) ∷ (codes "max", op.Max) ∷ []

abbrev pub call_of : Lexeme → Option Op
call_of token = meaning_in call_words token

-- the operators between the operands of a chain
abbrev pub op_of : Chain → Lexeme → Option Op
op_of Sum = term_op_of
op_of Product = factor_op_of

abbrev pub place_words : List (List ℕ × Expr)
place_words =
    (codes "x", expr.X)
    ∷ (codes "y", expr.Y)
    ∷ (codes "z", expr.Z)
    ∷ (codes "level", expr.Level)
    ∷ (codes "material", expr.Material)
    ∷ (codes "step", expr.Step)
    ∷ []

abbrev pub place_of : Lexeme → Option Expr
place_of token = meaning_in place_words token

abbrev pub store_words : List (List ℕ × Store)
store_words = (codes "old", store.Old) ∷ (codes "new", store.New) ∷ []

abbrev pub store_of : Lexeme → Option Store
store_of token = meaning_in store_words token

-- the reductions of the values one level finer
abbrev pub fine_words : List (List ℕ × How)
fine_words =
    (codes "fine_sum", how.FineSum)
    ∷ (codes "fine_min", how.FineMin)
    ∷ (codes "fine_max", how.FineMax)
    ∷ (codes "fine_count", how.FineCount)
    ∷ []

abbrev pub fine_of : Lexeme → Option How
fine_of token = meaning_in fine_words token

-- the words that are no names
abbrev pub is_reserved : List ℕ → Bool
is_reserved bytes = list_any (bytes_eq bytes)
    (codes "coarse" ∷ codes "fine" ∷ codes "fine_sum" ∷ codes "fine_min" ∷ codes "fine_max" ∷ codes "fine_count" ∷ [])
