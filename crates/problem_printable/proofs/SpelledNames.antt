-- The names of an expression that well spelled tokens spell.
use Rattle.std.proofs.Common.{◌≡◌, ℕ, List, [], ◌∷◌, ◌++◌, All, Some, codes, subst, sym, false}
use Rattle.std.proofs.lemmas.List.Elements.{All-head, All-tail}
use Rattle.uts_lex.specs.Lexemes.{Lexeme}
use Rattle.uts_lex.specs.Spelling.{IsLexeme}
use Rattle.uts_lex.specs.Names.{number_of, with_name}
use Rattle.kernel_ast.specs.declared.expression.Op.{Op}
use Rattle.kernel_ast.specs.declared.expression.Expr.{Expr}
use Rattle.kernel_ast.specs.declared.expression.Expr.TheVariants as expr
use Rattle.kernel_parse.specs.Signs.{word, sign, place_of, place_words, is_reserved}
use Rattle.kernel_parse.specs.Grammar.{Words, SpellsRead, own, coarse, fine, reduction, Form, Spells, one_sum, compared, one_product, added, one_unary, multiplied, one_primary, negated, literal, place, read, grouped, called, selected, SpellsExpression}
use Rattle.problem_printable.specs.Numbering.{expression_names}
use Rattle.problem_printable.proofs.Elements.{All-front, All-behind}
use Rattle.problem_printable.proofs.Forms.{expression_names-Literal, expression_names-X, expression_names-Y, expression_names-Z, expression_names-Level, expression_names-Material, expression_names-Step, expression_names-Read, expression_names-Number, expression_names-Neg, expression_names-Binary, expression_names-Select}
use Rattle.problem_printable.proofs.Meanings.{meaning_case}
use Rattle.problem_printable.proofs.Naming.{Grows, grows_none, grows_name, grows_both}

-- the tokens are well spelled
abbrev pub AreSpelled : List Lexeme → Type 0
AreSpelled ts = All IsLexeme ts

-- the tokens behind the first
pub behind_first : (t : Lexeme) (ts : List Lexeme) → AreSpelled (t ∷ ts) → AreSpelled ts
behind_first t ts = All-tail IsLexeme t ts

-- the tokens on both sides of one
pub before : (ts us : List Lexeme) (at : Lexeme) → AreSpelled (ts ++ at ∷ us) → AreSpelled ts
before ts us at = All-front IsLexeme ts (at ∷ us)

pub behind : (ts us : List Lexeme) (at : Lexeme) → AreSpelled (ts ++ at ∷ us) → AreSpelled us
behind ts us at h = behind_first at us (All-behind IsLexeme ts (at ∷ us) h)

-- a name that a well spelled token names
pub named : (names : Words) (name : List ℕ) (ts : List Lexeme) → is_reserved name ≡ false → AreSpelled (word name ∷ ts)
    → Grows names (number_of names name ∷ []) (with_name names name)
named names name ts free h = grows_name names name (All-head IsLexeme (word name) ts h, free)

along : (names after : Words) (used other : List ℕ) → other ≡ used → Grows names used after → Grows names other after
along names after used other is g = subst (λ (w : List ℕ). Grows names w after) (sym is) g

read_named : {ts : List Lexeme} {names : Words} {e : Expr} {after : Words} → SpellsRead ts names e after → AreSpelled ts
    → Grows names (expression_names e) after
read_named (own names at store name ts by is_store free spelled) h =
    let h1 = behind_first at (sign (codes ".") ∷ word name ∷ ts) h in
    along _ _ _ _ (expression_names-Read _) (named names name ts free (behind_first (sign (codes ".")) (word name ∷ ts) h1))
read_named (coarse names at store name ts by is_store free spelled) h =
    let h1 = behind_first at (sign (codes ".") ∷ word (codes "coarse") ∷ sign (codes ".") ∷ word name ∷ ts) h in
    let h2 = behind_first (sign (codes ".")) (word (codes "coarse") ∷ sign (codes ".") ∷ word name ∷ ts) h1 in
    let h3 = behind_first (word (codes "coarse")) (sign (codes ".") ∷ word name ∷ ts) h2 in
    along _ _ _ _ (expression_names-Read _) (named names name ts free (behind_first (sign (codes ".")) (word name ∷ ts) h3))
read_named (fine names at kind store how name is_store is_fine_how free) h =
    let h1 = behind_first at (sign (codes ".") ∷ kind ∷ sign (codes ".") ∷ word name ∷ []) h in
    let h2 = behind_first (sign (codes ".")) (kind ∷ sign (codes ".") ∷ word name ∷ []) h1 in
    let h3 = behind_first kind (sign (codes ".") ∷ word name ∷ []) h2 in
    along _ _ _ _ (expression_names-Read _) (named names name [] free (behind_first (sign (codes ".")) (word name ∷ []) h3))
read_named (reduction names at store name is_store free) h =
    let h1 = behind_first at (sign (codes ".") ∷ word name ∷ []) h in
    along _ _ _ _ (expression_names-Number store _) (named names name [] free (behind_first (sign (codes ".")) (word name ∷ []) h1))

place_named : (names : Words) (at : Lexeme) (e : Expr) → place_of at ≡ Some e → Grows names (expression_names e) names
place_named names at e is = along _ _ _ _ (meaning_case (λ e. expression_names e ≡ []) place_words at e is
    (expression_names-X, (expression_names-Y, (expression_names-Z, (expression_names-Level, (expression_names-Material, (expression_names-Step, tt)))))))
    (grows_none names)

binary_named : (names between after : Words) (op : Op) (a b : Expr) → Grows names (expression_names a) between
    → Grows between (expression_names b) after → Grows names (expression_names (expr.Binary op a b)) after
binary_named names between after op a b f g = along _ _ _ _ (expression_names-Binary op a b) (grows_both _ _ _ _ _ f g)

part_named : {form : Form} {room : ℕ} {ts : List Lexeme} {names : Words} {e : Expr} {after : Words} → Spells form room ts names e after
    → AreSpelled ts → Grows names (expression_names e) after
part_named (one_sum room ts names after a s) h = part_named s h
part_named (compared room ts us names between after a b at op s is t) h =
    binary_named names between after op a b (part_named s (before ts us at h)) (part_named t (behind ts us at h))
part_named (one_product room ts names after a s) h = part_named s h
part_named (added room ts us names between after a b at op s is t) h =
    binary_named names between after op a b (part_named s (before ts us at h)) (part_named t (behind ts us at h))
part_named (one_unary room ts names after a s) h = part_named s h
part_named (multiplied room ts us names between after a b at op s is t) h =
    binary_named names between after op a b (part_named s (before ts us at h)) (part_named t (behind ts us at h))
part_named (one_primary room ts names after a s) h = part_named s h
part_named (negated room ts names after a s) h =
    along _ _ _ _ (expression_names-Neg a) (part_named s (behind_first (sign (codes "-")) ts h))
part_named (literal room names n small) h = along _ _ _ _ (expression_names-Literal _) (grows_none names)
part_named (place room names at e is) h = place_named names at e is
part_named (read room ts names after e r) h = read_named r h
part_named (grouped room ts names after e s) h =
    part_named s (before ts [] (sign (codes ")")) (behind_first (sign (codes "(")) (ts ++ sign (codes ")") ∷ []) h))
part_named (called room ts us names between after a b at op is s t) h =
    let h1 = behind_first at (sign (codes "(") ∷ ts ++ sign (codes ",") ∷ us ++ sign (codes ")") ∷ []) h in
    let h2 = behind_first (sign (codes "(")) (ts ++ sign (codes ",") ∷ us ++ sign (codes ")") ∷ []) h1 in
    let h3 = before (ts ++ sign (codes ",") ∷ us) [] (sign (codes ")")) h2 in
    binary_named names between after op a b (part_named s (before ts us (sign (codes ",")) h3))
    (part_named t (behind ts us (sign (codes ",")) h3))
part_named (selected room ts us vs names one two after c a b s t u) h =
    let h1 = behind_first (word (codes "select")) (sign (codes "(") ∷ ts ++ sign (codes ",") ∷ us ++ sign (codes ",") ∷ vs ++ sign (codes ")") ∷ []) h in
    let h2 = behind_first (sign (codes "(")) (ts ++ sign (codes ",") ∷ us ++ sign (codes ",") ∷ vs ++ sign (codes ")") ∷ []) h1 in
    let h3 = before (ts ++ sign (codes ",") ∷ us ++ sign (codes ",") ∷ vs) [] (sign (codes ")")) h2 in
    let h4 = before (ts ++ sign (codes ",") ∷ us) vs (sign (codes ",")) h3 in
    along _ _ _ _ (expression_names-Select c a b)
    (grows_both _ _ _ _ _ (part_named s (before ts us (sign (codes ",")) h4))
    (grows_both _ _ _ _ _ (part_named t (behind ts us (sign (codes ",")) h4))
    (part_named u (behind (ts ++ sign (codes ",") ∷ us) vs (sign (codes ",")) h3))))

pub expression_named : {ts : List Lexeme} {names : Words} {e : Expr} {after : Words} → SpellsExpression ts names e after
    → AreSpelled ts → Grows names (expression_names e) after
expression_named s h = part_named s.spelled h
