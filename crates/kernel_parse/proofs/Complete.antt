-- Expressions that are spelled are read, whatever stands behind them that does not go on with them.
use Rattle.std.proofs.Common.{◌≡◌, ℕ, zero, suc, ◌-◌, ◌<◌, ◌≤◌, ◌^◌, true, false, List, [], ◌∷◌, ◌++◌, Some, None, refl, sym, ap, ◌∙◌, subst, append_assoc, codes, pos, arith}
use Rattle.std.specs.Prelude.{nat_lt}
use Rattle.std.proofs.lemmas.List.{append-nil}
use Rattle.std.proofs.lemmas.Bool.Decides.{nat_tests}
use Rattle.uts_lex.specs.declared.token.Kind.TheVariants.{Word}
use Rattle.uts_lex.specs.Lexemes.{Lexeme}
use Rattle.kernel_ast.specs.Size.{depth_of, node_count, depth_of_positive, depth_of-Neg, depth_of-Binary, depth_of-Select, node_count-Neg, node_count-Binary, node_count-Select}
use Rattle.kernel_ast.specs.declared.expression.Store.{Store}
use Rattle.kernel_ast.specs.declared.expression.Op.{Op}
use Rattle.kernel_ast.specs.declared.expression.Expr.{Expr}
use Rattle.kernel_ast.specs.declared.expression.Expr.TheVariants as expr
use Rattle.kernel_parse.specs.Signs.{word, number, sign, is_sign, comparison_of, term_op_of, factor_op_of, call_words, call_of, place_words, place_of, store_words, store_of}
use Rattle.kernel_parse.specs.Grammar.{Words, SpellsRead, own, coarse, fine, reduction, Form, whole, sum, product, unary, primary, Spells, one_sum, compared, one_product, added, one_unary, multiplied, one_primary, negated, literal, place, read, grouped, called, selected, SpellsExpression}
use Rattle.kernel_parse.specs.Reading.{behind_sign, first_as, Parsed, parsed, read_at, limited, Reader, unary_at, call_at, select_at, leaf_at, primary_at, product_at, sum_at, whole_at, expression_at, all_of}
use Rattle.kernel_parse.specs.Numbers.{is_number-decimal, digits_value-decimal}
use Rattle.kernel_parse.specs.Tables.{meaning_case}
use Rattle.kernel_parse.proofs.Again.{read_again}
use Rattle.kernel_parse.proofs.Ends.{AfterUnary, AfterProduct, AfterSum, AfterWhole, ends_at_end, ends_at_shut, ends_at_comma, ends_at_comparison, ends_at_term, ends_at_factor, fits, Gets, GetsChain, chain_ends, chain_one, chain_more}

-- ---- the first token tells the form

read_begins : {ts : List Lexeme} {names : Words} {e : Expr} {after : Words} → SpellsRead ts names e after
    → (at : Lexeme) × (store : Store) × (w : List Lexeme) × (ts ≡ at ∷ w) × (store_of at ≡ Some store)
read_begins (own names at store name ts by is_store free spelled) = (at, store, _, refl, is_store)
read_begins (coarse names at store name ts by is_store free spelled) = (at, store, _, refl, is_store)
read_begins (fine names at kind store how name is_store is_fine free) = (at, store, _, refl, is_store)
read_begins (reduction names at store name is_store free) = (at, store, _, refl, is_store)

read_no_minus : {ts : List Lexeme} {names : Words} {e : Expr} {after : Words} → SpellsRead ts names e after
    → (rest : List Lexeme) → behind_sign (codes "-") (ts ++ rest) ≡ None
read_no_minus r rest =
    let b = read_begins r in
    subst (λ (w : List Lexeme). behind_sign (codes "-") (w ++ rest) ≡ None) (sym b.3)
    (meaning_case Word (λ (t : Lexeme) (s : Store). behind_sign (codes "-") (t ∷ b.2 ++ rest) ≡ None) store_words b.0 b.1 b.4 (refl, (refl, tt)))

pub no_minus : {room : ℕ} {ts : List Lexeme} {names : Words} {e : Expr} {after : Words} → Spells primary room ts names e after
    → (rest : List Lexeme) → behind_sign (codes "-") (ts ++ rest) ≡ None
no_minus (literal room names n small) rest = refl
no_minus (place room names at e is) rest = meaning_case Word (λ (t : Lexeme) (p : Expr). behind_sign (codes "-") (t ∷ rest) ≡ None) place_words at e is (refl, (refl, (refl, (refl, (refl, (refl, tt))))))
no_minus (read room ts names after e r) rest = read_no_minus r rest
no_minus (grouped room ts names after e s) rest = refl
no_minus (called room ts us names between after a b at op is s t) rest = meaning_case Word (λ (w : Lexeme) (o : Op). behind_sign (codes "-") ((w ∷ sign (codes "(") ∷ ts ++ sign (codes ",") ∷ us ++ sign (codes ")") ∷ []) ++ rest) ≡ None) call_words at op is (refl, (refl, tt))
no_minus (selected room ts us vs names first second after c a b s t u) rest = refl

at_unary : (reader : Reader) (depth : ℕ) (names : Words) (w : List Lexeme) → 1 ≤ depth → behind_sign (codes "-") w ≡ None → unary_at reader depth names w ≡ reader depth names w
unfolding unary_at
at_unary reader zero names w some none = absurd (omega arith)
at_unary reader (suc depth) names w some none = rw none refl

at_minus : (reader : Reader) (depth : ℕ) (names after : Words) (a : Expr) (w rest : List Lexeme) → 1 ≤ depth → unary_at reader (depth - 1) names w ≡ Some (parsed a after rest)
    → limited depth (expr.Neg a) ≡ Some (expr.Neg a) → unary_at reader depth names (sign (codes "-") ∷ w) ≡ Some (parsed (expr.Neg a) after rest)
unfolding unary_at
at_minus reader zero names after a w rest some part fit = absurd (omega arith)
at_minus reader (suc depth) names after a w rest some part fit =
    let k : suc depth - 1 ≡ depth = omega arith in
    let part' : unary_at reader depth names w ≡ Some (parsed a after rest) = ap (λ (d : ℕ). unary_at reader d names w) (sym k) ∙ part in
    rw (part', fit) refl

module _ (inner : Reader) where
  at_literal : (depth : ℕ) (names : Words) (n : ℕ) (rest : List Lexeme) → 1 ≤ depth → n < 2 ^ 63 → primary_at inner depth names (number n ∷ rest) ≡ Some (parsed (expr.Literal (pos n)) names rest)
  unfolding primary_at leaf_at
  at_literal zero names n rest some small = absurd (omega arith)
  at_literal (suc depth) names n rest some small =
      let test : nat_lt n (2 ^ 63) ≡ true = grind (arith, nat_tests) in
      rw (is_number-decimal n (omega arith), digits_value-decimal n (omega arith), test) refl

  at_place : (depth : ℕ) (names : Words) (at : Lexeme) (e : Expr) (rest : List Lexeme) → 1 ≤ depth → place_of at ≡ Some e → primary_at inner depth names (at ∷ rest) ≡ Some (parsed e names rest)
  unfolding primary_at leaf_at
  at_place zero names at e rest some is = absurd (omega arith)
  at_place (suc depth) names at e rest some is =
      meaning_case Word (λ (t : Lexeme) (p : Expr). primary_at inner (suc depth) names (t ∷ rest) ≡ Some (parsed p names rest)) place_words at e is (refl, (refl, (refl, (refl, (refl, (refl, tt))))))

  at_store : (depth : ℕ) (names : Words) (at : Lexeme) (store : Store) (w : List Lexeme) → 1 ≤ depth → store_of at ≡ Some store → primary_at inner depth names (at ∷ w) ≡ read_at names (at ∷ w)
  unfolding primary_at leaf_at
  at_store zero names at store w some is = absurd (omega arith)
  at_store (suc depth) names at store w some is = meaning_case Word (λ (t : Lexeme) (s : Store). primary_at inner (suc depth) names (t ∷ w) ≡ read_at names (t ∷ w)) store_words at store is (refl, (refl, tt))

  at_group : (depth : ℕ) (names after : Words) (e : Expr) (w rest : List Lexeme) → 1 ≤ depth → inner depth names w ≡ Some (parsed e after (sign (codes ")") ∷ rest))
      → primary_at inner depth names (sign (codes "(") ∷ w) ≡ Some (parsed e after rest)
  unfolding primary_at
  at_group zero names after e w rest some got = absurd (omega arith)
  at_group (suc depth) names after e w rest some got = rw got refl

  at_call : (depth : ℕ) (names : Words) (at : Lexeme) (op : Op) (w : List Lexeme) → 1 ≤ depth → call_of at ≡ Some op → primary_at inner depth names (at ∷ w) ≡ call_at inner op depth names w
  unfolding primary_at
  at_call zero names at op w some is = absurd (omega arith)
  at_call (suc depth) names at op w some is =
      let not_group : is_sign (codes "(") at ≡ false = meaning_case Word (λ (t : Lexeme) (o : Op). is_sign (codes "(") t ≡ false) call_words at op is (refl, (refl, tt)) in
      rw (not_group, is) refl

  at_select : (depth : ℕ) (names : Words) (w : List Lexeme) → 1 ≤ depth → primary_at inner depth names (word (codes "select") ∷ w) ≡ select_at inner depth names w
  unfolding primary_at
  at_select zero names w some = absurd (omega arith)
  at_select (suc depth) names w some = refl

  call_again : (depth : ℕ) (op : Op) (ts us rest : List Lexeme) (names between after : Words) (a b : Expr)
      → inner (depth - 1) names (ts ++ (sign (codes ",") ∷ us ++ (sign (codes ")") ∷ rest))) ≡ Some (parsed a between (sign (codes ",") ∷ us ++ (sign (codes ")") ∷ rest)))
      → inner (depth - 1) between (us ++ (sign (codes ")") ∷ rest)) ≡ Some (parsed b after (sign (codes ")") ∷ rest))
      → limited depth (expr.Binary op a b) ≡ Some (expr.Binary op a b)
      → call_at inner op depth names (sign (codes "(") ∷ ts ++ (sign (codes ",") ∷ us ++ (sign (codes ")") ∷ rest))) ≡ Some (parsed (expr.Binary op a b) after rest)
  unfolding call_at
  call_again depth op ts us rest names between after a b first second fit = rw (first, second, fit) refl

  select_again : (depth : ℕ) (ts us vs rest : List Lexeme) (names one two after : Words) (c a b : Expr)
      → inner (depth - 1) names (ts ++ (sign (codes ",") ∷ us ++ (sign (codes ",") ∷ vs ++ (sign (codes ")") ∷ rest)))) ≡ Some (parsed c one (sign (codes ",") ∷ us ++ (sign (codes ",") ∷ vs ++ (sign (codes ")") ∷ rest))))
      → inner (depth - 1) one (us ++ (sign (codes ",") ∷ vs ++ (sign (codes ")") ∷ rest))) ≡ Some (parsed a two (sign (codes ",") ∷ vs ++ (sign (codes ")") ∷ rest)))
      → inner (depth - 1) two (vs ++ (sign (codes ")") ∷ rest)) ≡ Some (parsed b after (sign (codes ")") ∷ rest))
      → limited depth (expr.Select c a b) ≡ Some (expr.Select c a b)
      → select_at inner depth names (sign (codes "(") ∷ ts ++ (sign (codes ",") ∷ us ++ (sign (codes ",") ∷ vs ++ (sign (codes ")") ∷ rest)))) ≡ Some (parsed (expr.Select c a b) after rest)
  unfolding select_at
  select_again depth ts us vs rest names one two after c a b first second third fit = rw (first, second, third, fit) refl

  one_sum_again : (depth : ℕ) (names after : Words) (w rest : List Lexeme) (a : Expr) → sum_at inner depth names w ≡ Some (parsed a after rest)
      → first_as comparison_of rest ≡ None → whole_at inner depth names w ≡ Some (parsed a after rest)
  one_sum_again depth names after w rest a got none = rw (got, none) refl

  compared_again : (depth : ℕ) (names between after : Words) (w behind_at rest : List Lexeme) (a b : Expr) (at : Lexeme) (op : Op)
      → sum_at inner depth names w ≡ Some (parsed a between (at ∷ behind_at)) → comparison_of at ≡ Some op
      → sum_at inner (depth - 1) between behind_at ≡ Some (parsed b after rest)
      → limited depth (expr.Binary op a b) ≡ Some (expr.Binary op a b)
      → whole_at inner depth names w ≡ Some (parsed (expr.Binary op a b) after rest)
  compared_again depth names between after w behind_at rest a b at op first is second fit = rw (first, is, second, fit) refl

inner_is : (room depth : ℕ) (names : Words) (w : List Lexeme) → expression_at (suc room) depth names w ≡ whole_at (expression_at room) depth names w
unfolding expression_at
inner_is room depth names w = refl

-- ---- each form

abbrev IsGot : Form → ℕ → ℕ → List Lexeme → Words → Expr → Words → Type 0
IsGot whole room depth ts names e after = Gets (whole_at (expression_at room)) AfterWhole depth ts names e after
IsGot sum room depth ts names e after = GetsChain term_op_of (product_at (expression_at room)) AfterProduct depth ts names e after
IsGot product room depth ts names e after = GetsChain factor_op_of (unary_at (primary_at (expression_at room))) AfterUnary depth ts names e after
IsGot unary room depth ts names e after = Gets (unary_at (primary_at (expression_at room))) AfterUnary depth ts names e after
IsGot primary room depth ts names e after = Gets (primary_at (expression_at room)) AfterUnary depth ts names e after

module _ (room : ℕ) where
  -- a whole sum and a whole product
  sum_got : (depth : ℕ) (ts : List Lexeme) (names : Words) (e : Expr) (after : Words) → IsGot sum room depth ts names e after → depth_of e ≤ depth
      → Gets (sum_at (expression_at room)) AfterSum depth ts names e after
  sum_got depth ts names e after g shallow rest ends =
      chain_ends term_op_of (product_at (expression_at room)) AfterProduct depth ts names e after g shallow rest ends.product_ends ends.no_term

  product_got : (depth : ℕ) (ts : List Lexeme) (names : Words) (e : Expr) (after : Words) → IsGot product room depth ts names e after → depth_of e ≤ depth
      → Gets (product_at (expression_at room)) AfterProduct depth ts names e after
  product_got depth ts names e after g shallow rest ends =
      chain_ends factor_op_of (unary_at (primary_at (expression_at room))) AfterUnary depth ts names e after g shallow rest ends.unary_ends ends.no_factor

  -- an expression in parentheses
  inside_got : (depth : ℕ) (ts : List Lexeme) (names : Words) (e : Expr) (after : Words) → IsGot whole room depth ts names e after
      → (rest : List Lexeme) → AfterWhole rest → expression_at (suc room) depth names (ts ++ rest) ≡ Some (parsed e after rest)
  inside_got depth ts names e after g rest ends = inner_is room depth names (ts ++ rest) ∙ g rest ends

complete : {form : Form} {room : ℕ} {ts : List Lexeme} {names : Words} {e : Expr} {after : Words} → Spells form room ts names e after
    → (depth : ℕ) → depth_of e ≤ depth → node_count e ≤ 256 → IsGot form room depth ts names e after
complete (one_sum room ts names after a s) depth shallow few = λ rest ends.
    one_sum_again (expression_at room) depth names after (ts ++ rest) rest a (sum_got room depth ts names a after (complete s depth shallow few) shallow rest ends.sum_ends) ends.no_comparison
complete (compared room ts us names between after a b at op s is t) depth shallow few = λ rest ends.
    let size = depth_of-Binary op a b in
    let count = node_count-Binary op a b in
    let behind_at = us ++ rest in
    let g = complete s depth (omega arith) (omega arith) in
    let h = complete t (depth - 1) (omega arith) (omega arith) in
    let first = sum_got room depth ts names a between g (omega arith) (at ∷ behind_at) (ends_at_comparison at op is behind_at) in
    let second = sum_got room (depth - 1) us between b after h (omega arith) rest ends.sum_ends in
    let tokens : ts ++ at ∷ us ++ rest ≡ ts ++ (at ∷ behind_at) = append_assoc ts (at ∷ us) rest in
    ap (λ (w : List Lexeme). whole_at (expression_at room) depth names w) tokens
    ∙ compared_again (expression_at room) depth names between after (ts ++ (at ∷ behind_at)) behind_at rest a b at op first is second (fits depth (expr.Binary op a b) shallow few)
complete (one_product room ts names after a s) depth shallow few =
    chain_one term_op_of (product_at (expression_at room)) AfterProduct depth ts names a after (product_got room depth ts names a after (complete s depth shallow few) shallow)
complete (added room ts us names between after a b at op s is t) depth shallow few =
    let size = depth_of-Binary op a b in
    let count = node_count-Binary op a b in
    let g = complete s depth (omega arith) (omega arith) in
    let h = complete t (depth - 1) (omega arith) (omega arith) in
    chain_more term_op_of (product_at (expression_at room)) AfterProduct depth ts us names between after a b at op (ends_at_term at op is) is g
    (product_got room (depth - 1) us between b after h (omega arith)) shallow few
complete (one_unary room ts names after a s) depth shallow few =
    chain_one factor_op_of (unary_at (primary_at (expression_at room))) AfterUnary depth ts names a after (complete s depth shallow few)
complete (multiplied room ts us names between after a b at op s is t) depth shallow few =
    let size = depth_of-Binary op a b in
    let count = node_count-Binary op a b in
    let g = complete s depth (omega arith) (omega arith) in
    let h = complete t (depth - 1) (omega arith) (omega arith) in
    chain_more factor_op_of (unary_at (primary_at (expression_at room))) AfterUnary depth ts us names between after a b at op (ends_at_factor at op is) is g h shallow few
complete (one_primary room ts names after a s) depth shallow few = λ rest ends.
    at_unary (primary_at (expression_at room)) depth names (ts ++ rest) (omega (arith, depth_of_positive a)) (no_minus s rest) ∙ complete s depth shallow few rest ends
complete (negated room ts names after a s) depth shallow few = λ rest ends.
    let size = depth_of-Neg a in
    let count = node_count-Neg a in
    at_minus (primary_at (expression_at room)) depth names after a (ts ++ rest) rest (omega arith) (complete s (depth - 1) (omega arith) (omega arith) rest ends) (fits depth (expr.Neg a) shallow few)
complete (literal room names n small) depth shallow few = λ rest ends.
    at_literal (expression_at room) depth names n rest (omega (arith, depth_of_positive (expr.Literal (pos n)))) small
complete (place room names at e is) depth shallow few = λ rest ends.
    at_place (expression_at room) depth names at e rest (omega (arith, depth_of_positive e)) is
complete (read room ts names after e r) depth shallow few = λ rest ends.
    let b = read_begins r in
    let some : 1 ≤ depth = omega (arith, depth_of_positive e) in
    let same : primary_at (expression_at room) depth names (ts ++ rest) ≡ read_at names (ts ++ rest) =
    subst (λ (w : List Lexeme). primary_at (expression_at room) depth names (w ++ rest) ≡ read_at names (w ++ rest)) (sym b.3) (at_store (expression_at room) depth names b.0 b.1 (b.2 ++ rest) some b.4) in
    same ∙ read_again r rest ends
complete (grouped room ts names after e s) depth shallow few = λ rest ends.
    let w = ts ++ (sign (codes ")") ∷ rest) in
    let tokens : (sign (codes "(") ∷ ts ++ sign (codes ")") ∷ []) ++ rest ≡ sign (codes "(") ∷ w = simp append_assoc in
    ap (λ (w : List Lexeme). primary_at (expression_at (suc room)) depth names w) tokens
    ∙ at_group (expression_at (suc room)) depth names after e w rest (omega (arith, depth_of_positive e)) (inside_got room depth ts names e after (complete s depth shallow few) (sign (codes ")") ∷ rest) (ends_at_shut rest))
complete (called room ts us names between after a b at op is s t) depth shallow few = λ rest ends.
    let size = depth_of-Binary op a b in
    let count = node_count-Binary op a b in
    let last = sign (codes ")") ∷ rest in
    let second = sign (codes ",") ∷ us ++ last in
    let g = complete s (depth - 1) (omega arith) (omega arith) in
    let h = complete t (depth - 1) (omega arith) (omega arith) in
    let tokens : (at ∷ sign (codes "(") ∷ ts ++ sign (codes ",") ∷ us ++ sign (codes ")") ∷ []) ++ rest ≡ at ∷ sign (codes "(") ∷ ts ++ second = simp append_assoc in
    ap (λ (w : List Lexeme). primary_at (expression_at (suc room)) depth names w) tokens
    ∙ at_call (expression_at (suc room)) depth names at op (sign (codes "(") ∷ ts ++ second) (omega arith) is
    ∙ call_again (expression_at (suc room)) depth op ts us rest names between after a b
    (inside_got room (depth - 1) ts names a between g second (ends_at_comma (us ++ last)))
    (inside_got room (depth - 1) us between b after h last (ends_at_shut rest))
    (fits depth (expr.Binary op a b) shallow few)
complete (selected room ts us vs names one two after c a b s t u) depth shallow few = λ rest ends.
    let size = depth_of-Select c a b in
    let count = node_count-Select c a b in
    let last = sign (codes ")") ∷ rest in
    let third = sign (codes ",") ∷ vs ++ last in
    let second = sign (codes ",") ∷ us ++ third in
    let g = complete s (depth - 1) (omega arith) (omega arith) in
    let h = complete t (depth - 1) (omega arith) (omega arith) in
    let i = complete u (depth - 1) (omega arith) (omega arith) in
    let tokens : (word (codes "select") ∷ sign (codes "(") ∷ ts ++ sign (codes ",") ∷ us ++ sign (codes ",") ∷ vs ++ sign (codes ")") ∷ []) ++ rest
    ≡ word (codes "select") ∷ sign (codes "(") ∷ ts ++ second = simp append_assoc in
    ap (λ (w : List Lexeme). primary_at (expression_at (suc room)) depth names w) tokens
    ∙ at_select (expression_at (suc room)) depth names (sign (codes "(") ∷ ts ++ second) (omega arith)
    ∙ select_again (expression_at (suc room)) depth ts us vs rest names one two after c a b
    (inside_got room (depth - 1) ts names c one g second (ends_at_comma (us ++ third)))
    (inside_got room (depth - 1) us one a two h third (ends_at_comma (vs ++ last)))
    (inside_got room (depth - 1) vs two b after i last (ends_at_shut rest))
    (fits depth (expr.Select c a b) shallow few)

-- an expression within the limits is what all of the tokens are read as
pub all_read : (names after : Words) (ts : List Lexeme) (e : Expr) → SpellsExpression ts names e after → all_of names ts ≡ Some (parsed e after [])
all_read names after ts e s =
    let got = inside_got 64 64 ts names e after (complete s.spelled 64 s.shallow s.few_nodes) [] ends_at_end in
    let whole_is : expression_at 65 64 names ts ≡ Some (parsed e after []) = subst (λ (w : List Lexeme). expression_at 65 64 names w ≡ Some (parsed e after [])) (append-nil ts) got in
    rw whole_is refl

-- so there is one expression at most
pub one_at_most : (names after other : Words) (ts : List Lexeme) (e f : Expr) → SpellsExpression ts names e after → SpellsExpression ts names f other → (e ≡ f) × (after ≡ other)
one_at_most names after other ts e f s t =
    let same = sym (all_read names after ts e s) ∙ all_read names other ts f t in
    (of_some (λ (p : Parsed). p.expr) (parsed e after []) (parsed f other []) same, of_some (λ (p : Parsed). p.names) (parsed e after []) (parsed f other []) same)
  where
    of_some : {A : Type 0} (view : Parsed → A) (p q : Parsed) → Some p ≡ Some q → view p ≡ view q
    of_some view p q same = let is : p ≡ q = cc in ap view is
