-- Expressions with operators, calls and parentheses that are read are spelled so.
use Rattle.std.proofs.Common.{◌≡◌, ℕ, zero, suc, ◌-◌, ◌<◌, ◌≤◌, ◌^◌, List, [], ◌∷◌, ◌++◌, Option, Some, inl, inr, refl, sym, ap, ◌∙◌, subst, append_assoc, codes, pos, arith}
use Rattle.std.specs.Prelude.{◌&&◌, nat_lt, nat_le}
use Rattle.std.specs.Option.{option_map, option_map_or}
use Rattle.std.proofs.lemmas.List.{append-nil}
use Rattle.std.proofs.lemmas.Bool.Decides.{nat_tests}
use Rattle.uts_lex.specs.declared.token.Kind.TheVariants.{Word}
use Rattle.uts_lex.specs.Lexemes.{Lexeme}
use Rattle.kernel_ast.specs.Size.{depth_of, node_count, depth_of-Literal, depth_of-X, depth_of-Y, depth_of-Z, depth_of-Level, depth_of-Material, depth_of-Step, depth_of-Read, depth_of-Number, node_count-Literal, node_count-X, node_count-Y, node_count-Z, node_count-Level, node_count-Material, node_count-Step, node_count-Read, node_count-Number}
use Rattle.kernel_ast.specs.declared.expression.Op.{Op}
use Rattle.kernel_ast.specs.declared.expression.Expr.{Expr}
use Rattle.kernel_ast.specs.declared.expression.Expr.TheVariants as expr
use Rattle.kernel_parse.specs.Signs.{word, sign, is_word, comparison_of, term_op_of, factor_op_of, call_of, place_words, place_of}
use Rattle.kernel_parse.specs.Grammar.{Words, SpellsRead, own, coarse, fine, reduction, Form, whole, sum, product, unary, primary, Spells, one_sum, compared, one_product, added, one_unary, multiplied, one_primary, negated, literal, place, read, grouped, called, selected, SpellsExpression}
use Rattle.kernel_parse.specs.Reading.{◌>>=◌, behind, behind_sign, number_of_token, first_as, Parsed, parsed, read_at, IsLeaf, limited, Reader, sized, joined, more_at, chain_at, negation_of, unary_at, behind_sign_at, closed, group_at, call_at, select_at, literal_of, atom_of, leaf_at, primary_at, product_at, sum_at, comparison_at, whole_at, expression_at, if_empty, all_of}
use Rattle.kernel_parse.specs.Tables.{meaning_case}
use Rattle.kernel_parse.proofs.Phrases.{joined_two, joined_three}
use Rattle.kernel_parse.proofs.Found.{read_some}
use Rattle.kernel_parse.specs.Firsts.{bind_some, branch_some, test_some, both, map_some, behind_sign_some, behind_word_some, first_as_some, number_some}

-- at most so deep, and of at most 256 nodes
pub record IsLimited (depth : ℕ) (e : Expr) : Type 0 where
  pub shallow : depth_of e ≤ depth
  pub few : node_count e ≤ 256

-- the tokens at the front spell what was read, which is within the limits
pub record Takes (form : Form) (room depth : ℕ) (names : Words) (ts : List Lexeme) (p : Parsed) : Type 0 where
  pub phrase : List Lexeme
  pub parts : ts ≡ phrase ++ p.rest
  pub spelled : Spells form room phrase names p.expr p.names
  pub limits : IsLimited depth p.expr

abbrev pub IsSound : Form → ℕ → Reader → Type 0
IsSound form room reader = (depth : ℕ) (names : Words) (ts : List Lexeme) (p : Parsed) → reader depth names ts ≡ Some p → Takes form room depth names ts p

sized_some : (depth : ℕ) (e : Expr) (names : Words) (rest : List Lexeme) (p : Parsed) → sized depth e names rest ≡ Some p → (parsed e names rest ≡ p) × IsLimited depth e
sized_some depth e names rest p h =
    let m = map_some (λ (x : Expr). parsed x names rest) (limited depth e) p h in
    let t = test_some (nat_le (depth_of e) depth && nat_le (node_count e) 256) e m.0 m.1 in
    let b = both (nat_le (depth_of e) depth) (nat_le (node_count e) 256) t.0 in
    (ap (λ (x : Expr). parsed x names rest) t.1 ∙ m.2, record { shallow = grind (arith, nat_tests, b.0); few = grind (arith, nat_tests, b.1) })

-- ---- chains

module _ (outer inner : Form) (room : ℕ) (meaning : Lexeme → Option Op) (operand : Reader)
    (more : (ts us : List Lexeme) (names between after : Words) (a b : Expr) (at : Lexeme) (op : Op)
    → Spells outer room ts names a between → meaning at ≡ Some op → Spells inner room us between b after
    → Spells outer room (ts ++ at ∷ us) names (expr.Binary op a b) after)
    (sound : IsSound inner room operand) where
  more_some : (depth passes : ℕ) (names : Words) (ts : List Lexeme) (left p : Parsed) → Takes outer room depth names ts left
      → more_at meaning operand depth passes left ≡ Some p → Takes outer room depth names ts p
  unfolding more_at
  more_some depth zero names ts left p so_far e = absurd cc
  more_some depth (suc passes) names ts left p so_far e =
      elim (branch_some (λ op. operand (depth - 1) left.names op.1 >>= (λ right. joined depth op.0 left right >>= (λ next. more_at meaning operand depth passes next)))
      (first_as meaning left.rest) (Some left) p e) [
        | inl b ↦
            let op = b.0 in
            let q = bind_some (operand (depth - 1) left.names op.1) (λ right. joined depth op.0 left right >>= (λ next. more_at meaning operand depth passes next)) p b.2 in
            let right = q.0 in
            let j = bind_some (joined depth op.0 left right) (λ next. more_at meaning operand depth passes next) p q.2 in
            let next = sized_some depth (expr.Binary op.0 left.expr right.expr) right.names right.rest j.0 j.1 in
            let t = first_as_some meaning left.rest op.0 op.1 b.1 in
            let r = sound (depth - 1) left.names op.1 right q.1 in
            let taken : Takes outer room depth names ts (parsed (expr.Binary op.0 left.expr right.expr) right.names right.rest) = record {
              phrase = so_far.phrase ++ t.0 ∷ r.phrase;
              parts = so_far.parts ∙ ap (λ (w : List Lexeme). so_far.phrase ++ w) (t.1 ∙ ap (λ (w : List Lexeme). t.0 ∷ w) r.parts) ∙ sym (append_assoc so_far.phrase (t.0 ∷ r.phrase) right.rest);
              spelled = more so_far.phrase r.phrase names left.names right.names left.expr right.expr t.0 op.0 so_far.spelled t.2 r.spelled;
              limits = next.1;
            } in
            more_some depth passes names ts j.0 p (subst (Takes outer room depth names ts) next.0 taken) j.2
        | inr b ↦
            let same : left ≡ p = cc (b.1) in
            subst (Takes outer room depth names ts) same so_far
      ]

  chain_some : ((ts : List Lexeme) (names after : Words) (a : Expr) → Spells inner room ts names a after → Spells outer room ts names a after)
      → IsSound outer room (chain_at meaning operand)
  chain_some one depth names ts p e =
      let q = bind_some (operand depth names ts) (λ first. more_at meaning operand depth depth first) p e in
      let s = sound depth names ts q.0 q.1 in
      more_some depth depth names ts q.0 p (record { phrase = s.phrase; parts = s.parts; spelled = one s.phrase names q.0.names q.0.expr s.spelled; limits = s.limits }) q.2

-- ---- negations

module _ (room : ℕ) (reader : Reader) (sound : IsSound primary room reader) where
  unary_some : IsSound unary room (unary_at reader)
  unfolding unary_at
  unary_some zero names ts p e = absurd cc
  unary_some (suc depth) names ts p e =
      elim (branch_some (λ rest. unary_at reader depth names rest >>= (λ part. negation_of (suc depth) part)) (behind_sign (codes "-") ts) (reader (suc depth) names ts) p e) [
        | inl b ↦
            let q = bind_some (unary_at reader depth names b.0) (λ part. negation_of (suc depth) part) p b.2 in
            let part = q.0 in
            let s = unary_some depth names b.0 part q.1 in
            let minus = behind_sign_some (codes "-") ts b.0 b.1 in
            let size = sized_some (suc depth) (expr.Neg part.expr) part.names part.rest p q.2 in
            subst (Takes unary room (suc depth) names ts) size.0 (record {
              phrase = sign (codes "-") ∷ s.phrase;
              parts = minus ∙ ap (λ (w : List Lexeme). sign (codes "-") ∷ w) s.parts;
              spelled = negated room s.phrase names part.names part.expr s.spelled;
              limits = size.1;
            })
        | inr b ↦
            let s = sound (suc depth) names ts p b.1 in
            record { phrase = s.phrase; parts = s.parts; spelled = one_primary room s.phrase names p.names p.expr s.spelled; limits = s.limits }
      ]

-- ---- leaves

read_is_leaf : {ts : List Lexeme} {names : Words} {e : Expr} {after : Words} → SpellsRead ts names e after → IsLeaf e
read_is_leaf (own names at store name ts by is_store free spelled) = record { deep = depth_of-Read _; wide = node_count-Read _ }
read_is_leaf (coarse names at store name ts by is_store free spelled) = record { deep = depth_of-Read _; wide = node_count-Read _ }
read_is_leaf (fine names at kind store how name is_store is_fine free) = record { deep = depth_of-Read _; wide = node_count-Read _ }
read_is_leaf (reduction names at store name is_store free) = record { deep = depth_of-Number _ _; wide = node_count-Number _ _ }

place_is_leaf : (t : Lexeme) (e : Expr) → place_of t ≡ Some e → IsLeaf e
place_is_leaf t e is = meaning_case Word (λ (t : Lexeme) (e : Expr). IsLeaf e) place_words t e is (
  record { deep = depth_of-X; wide = node_count-X },
  (
    record { deep = depth_of-Y; wide = node_count-Y },
    (
      record { deep = depth_of-Z; wide = node_count-Z },
      (record { deep = depth_of-Level; wide = node_count-Level }, (record { deep = depth_of-Material; wide = node_count-Material }, (record { deep = depth_of-Step; wide = node_count-Step }, tt))),
    ),
  ),
)

leaf_limits : (depth : ℕ) (e : Expr) → 1 ≤ depth → IsLeaf e → IsLimited depth e
leaf_limits depth e some leaf = record { shallow = omega (arith, leaf.deep); few = omega (arith, leaf.wide) }

atom_some : (room : ℕ) (names : Words) (t : Lexeme) (e : Expr) → atom_of t ≡ Some e → Spells primary room (t ∷ []) names e names × IsLeaf e
atom_some room names t e h =
    elim (branch_some literal_of (number_of_token t) (place_of t) e h) [
      | inl b ↦
          let n = b.0 in
          let s = number_some t n b.1 in
          let l = test_some (nat_lt n (2 ^ 63)) (expr.Literal (pos n)) e b.2 in
          let small : n < 2 ^ 63 = grind (arith, nat_tests, l.0) in
          subst (λ (x : Expr). Spells primary room (t ∷ []) names x names × IsLeaf x) l.1
          (subst (λ (w : Lexeme). Spells primary room (w ∷ []) names (expr.Literal (pos n)) names) (sym s.0) (literal room names n small), record { deep = depth_of-Literal (pos n); wide = node_count-Literal (pos n) })
      | inr b ↦ (place room names t e b.1, place_is_leaf t e b.1)
    ]

leaf_some : (room depth : ℕ) (names : Words) (ts : List Lexeme) (p : Parsed) → 1 ≤ depth → leaf_at names ts ≡ Some p → Takes primary room depth names ts p
unfolding leaf_at
leaf_some room depth names ts p some e =
    elim (branch_some (λ e. Some (parsed e.0 names e.1)) (first_as atom_of ts) (read_at names ts) p e) [
      | inl b ↦
          let t = first_as_some atom_of ts b.0.0 b.0.1 b.1 in
          let same : parsed b.0.0 names b.0.1 ≡ p = cc (b.2) in
          let a = atom_some room names t.0 b.0.0 t.2 in
          subst (Takes primary room depth names ts) same (record { phrase = t.0 ∷ []; parts = t.1; spelled = a.0; limits = leaf_limits depth b.0.0 some a.1 })
      | inr b ↦
          let r = read_some names ts p b.1 in
          record { phrase = r.phrase; parts = r.parts; spelled = read room r.phrase names p.names p.expr r.spelled; limits = leaf_limits depth p.expr some (read_is_leaf r.spelled) }
    ]

-- ---- parentheses

-- what is read in parentheses is spelled with room for one pair less
pub record TakesInside (room depth : ℕ) (names : Words) (ts : List Lexeme) (p : Parsed) : Type 0 where
  pub inside : ℕ
  pub room-is : room ≡ suc inside
  pub taken : Takes whole inside depth names ts p

module _ (room : ℕ) (inner : Reader) (sound : (depth : ℕ) (names : Words) (ts : List Lexeme) (p : Parsed) → inner depth names ts ≡ Some p → TakesInside room depth names ts p) where
  -- the same at a room that is known
  at_room : (inside : ℕ) → room ≡ suc inside → IsSound whole inside inner
  at_room inside is depth names ts p e =
      let s = sound depth names ts p e in
      let same : s.inside ≡ inside = omega (arith, s.room-is) in
      subst (λ (k : ℕ). Takes whole k depth names ts p) same s.taken

  -- an argument, and the sign before it
  argument_some : (bytes : List ℕ) (depth : ℕ) (names : Words) (ts : List Lexeme) (p : Parsed) → behind_sign_at bytes inner depth names ts ≡ Some p
      → (rest : List Lexeme) × (ts ≡ sign bytes ∷ rest) × (inner depth names rest ≡ Some p)
  argument_some bytes depth names ts p e =
      let q = bind_some (behind_sign bytes ts) (λ rest. inner depth names rest) p e in
      (q.0, behind_sign_some bytes ts q.0 q.1, q.2)

  closed_some : (depth : ℕ) (e : Expr) (names : Words) (ts : List Lexeme) (p : Parsed) → closed depth e names ts ≡ Some p
      → (rest : List Lexeme) × (ts ≡ sign (codes ")") ∷ rest) × (parsed e names rest ≡ p) × IsLimited depth e
  closed_some depth e names ts p h =
      let q = bind_some (behind_sign (codes ")") ts) (λ rest. sized depth e names rest) p h in
      let size = sized_some depth e names q.0 p q.2 in
      (q.0, behind_sign_some (codes ")") ts q.0 q.1, size.0, size.1)

  group_some : (depth : ℕ) (names : Words) (ts : List Lexeme) (p : Parsed) → group_at inner depth names ts ≡ Some p → Takes primary room depth names (sign (codes "(") ∷ ts) p
  group_some depth names ts p e =
      let q = bind_some (inner depth names ts) (λ e. option_map (λ rest. parsed e.expr e.names rest) (behind_sign (codes ")") e.rest)) p e in
      let m = map_some (λ (rest : List Lexeme). parsed q.0.expr q.0.names rest) (behind_sign (codes ")") q.0.rest) p q.2 in
      let s = sound depth names ts q.0 q.1 in
      let shut = behind_sign_some (codes ")") q.0.rest m.0 m.1 in
      let k = s.inside in
      let spelled : Spells primary room (sign (codes "(") ∷ s.taken.phrase ++ sign (codes ")") ∷ []) names q.0.expr q.0.names =
      subst (λ (k : ℕ). Spells primary k (sign (codes "(") ∷ s.taken.phrase ++ sign (codes ")") ∷ []) names q.0.expr q.0.names) (sym s.room-is)
      (grouped k s.taken.phrase names q.0.names q.0.expr s.taken.spelled) in
      subst (Takes primary room depth names (sign (codes "(") ∷ ts)) m.2 (record {
        phrase = sign (codes "(") ∷ s.taken.phrase ++ sign (codes ")") ∷ [];
        parts = ap (λ (w : List Lexeme). sign (codes "(") ∷ w) (s.taken.parts ∙ ap (λ (w : List Lexeme). s.taken.phrase ++ w) shut) ∙ simp append_assoc;
        spelled = spelled;
        limits = s.taken.limits;
      })

  call_some : (at : Lexeme) (op : Op) → call_of at ≡ Some op → (depth : ℕ) (names : Words) (ts : List Lexeme) (p : Parsed) → call_at inner op depth names ts ≡ Some p
      → Takes primary room depth names (at ∷ ts) p
  unfolding call_at
  call_some at op is_call depth names ts p e =
      let b = bind_some (behind_sign_at (codes "(") inner (depth - 1) names ts)
      (λ x. behind_sign_at (codes ",") inner (depth - 1) x.names x.rest >>= λ y. closed depth (expr.Binary op x.expr y.expr) y.names y.rest) p e in
      let x = b.0 in
      let d = bind_some (behind_sign_at (codes ",") inner (depth - 1) x.names x.rest) (λ y. closed depth (expr.Binary op x.expr y.expr) y.names y.rest) p b.2 in
      let y = d.0 in
      let c = closed_some depth (expr.Binary op x.expr y.expr) y.names y.rest p d.2 in
      let ax = argument_some (codes "(") (depth - 1) names ts x b.1 in
      let ay = argument_some (codes ",") (depth - 1) x.names x.rest y d.1 in
      let sx = sound (depth - 1) names ax.0 x ax.2 in
      let k = sx.inside in
      let sy = at_room k sx.room-is (depth - 1) x.names ay.0 y ay.2 in
      let phrase = at ∷ (sign (codes "(") ∷ sx.taken.phrase ++ sign (codes ",") ∷ sy.phrase ++ sign (codes ")") ∷ []) in
      let spelled : Spells primary room phrase names (expr.Binary op x.expr y.expr) y.names =
      subst (λ (k : ℕ). Spells primary k phrase names (expr.Binary op x.expr y.expr) y.names) (sym sx.room-is)
      (called k sx.taken.phrase sy.phrase names x.names y.names x.expr y.expr at op is_call sx.taken.spelled sy.spelled) in
      subst (Takes primary room depth names (at ∷ ts)) c.2 (record {
        phrase = phrase;
        parts = ap (λ (w : List Lexeme). at ∷ w) (joined_two (sign (codes "(")) (sign (codes ",")) (sign (codes ")")) sx.taken.phrase sy.phrase c.0 x.rest y.rest ts
            (ax.1 ∙ ap (λ (w : List Lexeme). sign (codes "(") ∷ w) sx.taken.parts) (ay.1 ∙ ap (λ (w : List Lexeme). sign (codes ",") ∷ w) sy.parts) c.1);
        spelled = spelled;
        limits = c.3;
      })

  select_some : (depth : ℕ) (names : Words) (ts : List Lexeme) (p : Parsed) → select_at inner depth names ts ≡ Some p
      → Takes primary room depth names (word (codes "select") ∷ ts) p
  unfolding select_at
  select_some depth names ts p e =
      let b = bind_some (behind_sign_at (codes "(") inner (depth - 1) names ts)
      (λ x. behind_sign_at (codes ",") inner (depth - 1) x.names x.rest >>= λ y. behind_sign_at (codes ",") inner (depth - 1) y.names y.rest >>= λ z. closed depth (expr.Select x.expr y.expr z.expr) z.names z.rest) p e in
      let x = b.0 in
      let d = bind_some (behind_sign_at (codes ",") inner (depth - 1) x.names x.rest)
      (λ y. behind_sign_at (codes ",") inner (depth - 1) y.names y.rest >>= λ z. closed depth (expr.Select x.expr y.expr z.expr) z.names z.rest) p b.2 in
      let y = d.0 in
      let f = bind_some (behind_sign_at (codes ",") inner (depth - 1) y.names y.rest) (λ z. closed depth (expr.Select x.expr y.expr z.expr) z.names z.rest) p d.2 in
      let z = f.0 in
      let c = closed_some depth (expr.Select x.expr y.expr z.expr) z.names z.rest p f.2 in
      let ax = argument_some (codes "(") (depth - 1) names ts x b.1 in
      let ay = argument_some (codes ",") (depth - 1) x.names x.rest y d.1 in
      let az = argument_some (codes ",") (depth - 1) y.names y.rest z f.1 in
      let sx = sound (depth - 1) names ax.0 x ax.2 in
      let k = sx.inside in
      let sy = at_room k sx.room-is (depth - 1) x.names ay.0 y ay.2 in
      let sz = at_room k sx.room-is (depth - 1) y.names az.0 z az.2 in
      let phrase = word (codes "select") ∷ (sign (codes "(") ∷ sx.taken.phrase ++ sign (codes ",") ∷ sy.phrase ++ sign (codes ",") ∷ sz.phrase ++ sign (codes ")") ∷ []) in
      let spelled : Spells primary room phrase names (expr.Select x.expr y.expr z.expr) z.names =
      subst (λ (k : ℕ). Spells primary k phrase names (expr.Select x.expr y.expr z.expr) z.names) (sym sx.room-is)
      (selected k sx.taken.phrase sy.phrase sz.phrase names x.names y.names z.names x.expr y.expr z.expr sx.taken.spelled sy.spelled sz.spelled) in
      subst (Takes primary room depth names (word (codes "select") ∷ ts)) c.2 (record {
        phrase = phrase;
        parts = ap (λ (w : List Lexeme). word (codes "select") ∷ w) (joined_three (sign (codes "(")) (sign (codes ",")) (sign (codes ",")) (sign (codes ")")) sx.taken.phrase sy.phrase sz.phrase c.0 x.rest y.rest z.rest ts
            (ax.1 ∙ ap (λ (w : List Lexeme). sign (codes "(") ∷ w) sx.taken.parts) (ay.1 ∙ ap (λ (w : List Lexeme). sign (codes ",") ∷ w) sy.parts)
            (az.1 ∙ ap (λ (w : List Lexeme). sign (codes ",") ∷ w) sz.parts) c.1);
        spelled = spelled;
        limits = c.3;
      })

  primary_some : IsSound primary room (primary_at inner)
  unfolding primary_at
  primary_some zero names ts p e = absurd cc
  primary_some (suc depth) names ts p e =
      elim (branch_some (λ rest. group_at inner (suc depth) names rest) (behind_sign (codes "(") ts)
      (option_map_or (λ op. call_at inner op.0 (suc depth) names op.1) (first_as call_of ts)
      (option_map_or (λ rest. select_at inner (suc depth) names rest) (behind (is_word (codes "select")) ts)
      (leaf_at names ts))) p e) [
        | inl b ↦ subst (λ (w : List Lexeme). Takes primary room (suc depth) names w p) (sym (behind_sign_some (codes "(") ts b.0 b.1)) (group_some (suc depth) names b.0 p b.2)
        | inr b ↦
            elim (branch_some (λ op. call_at inner op.0 (suc depth) names op.1) (first_as call_of ts)
            (option_map_or (λ rest. select_at inner (suc depth) names rest) (behind (is_word (codes "select")) ts) (leaf_at names ts)) p b.1) [
              | inl d ↦
                  let t = first_as_some call_of ts d.0.0 d.0.1 d.1 in
                  subst (λ (w : List Lexeme). Takes primary room (suc depth) names w p) (sym t.1) (call_some t.0 d.0.0 t.2 (suc depth) names d.0.1 p d.2)
              | inr d ↦
                  elim (branch_some (λ rest. select_at inner (suc depth) names rest) (behind (is_word (codes "select")) ts) (leaf_at names ts) p d.1) [
                    | inl f ↦ subst (λ (w : List Lexeme). Takes primary room (suc depth) names w p) (sym (behind_word_some (codes "select") ts f.0 f.1)) (select_some (suc depth) names f.0 p f.2)
                    | inr f ↦ leaf_some room (suc depth) names ts p (omega arith) f.1
                  ]
            ]
      ]

  product_some : IsSound product room (product_at inner)
  product_some = chain_some product unary room factor_op_of (unary_at (primary_at inner)) (multiplied room) (unary_some room (primary_at inner) primary_some) (one_unary room)

  sum_some : IsSound sum room (sum_at inner)
  sum_some = chain_some sum product room term_op_of (product_at inner) (added room) product_some (one_product room)

  whole_some : IsSound whole room (whole_at inner)
  whole_some depth names ts p e =
      let q = bind_some (sum_at inner depth names ts) (λ left. comparison_at inner depth left) p e in
      let left = q.0 in
      let s = sum_some depth names ts left q.1 in
      elim (branch_some (λ op. sum_at inner (depth - 1) left.names op.1 >>= (λ right. joined depth op.0 left right)) (first_as comparison_of left.rest) (Some left) p q.2) [
        | inl b ↦
            let op = b.0 in
            let r = bind_some (sum_at inner (depth - 1) left.names op.1) (λ right. joined depth op.0 left right) p b.2 in
            let right = r.0 in
            let t = first_as_some comparison_of left.rest op.0 op.1 b.1 in
            let o = sum_some (depth - 1) left.names op.1 right r.1 in
            let size = sized_some depth (expr.Binary op.0 left.expr right.expr) right.names right.rest p r.2 in
            subst (Takes whole room depth names ts) size.0 (record {
              phrase = s.phrase ++ t.0 ∷ o.phrase;
              parts = s.parts ∙ ap (λ (w : List Lexeme). s.phrase ++ w) (t.1 ∙ ap (λ (w : List Lexeme). t.0 ∷ w) o.parts) ∙ sym (append_assoc s.phrase (t.0 ∷ o.phrase) right.rest);
              spelled = compared room s.phrase o.phrase names left.names right.names left.expr right.expr t.0 op.0 s.spelled t.2 o.spelled;
              limits = size.1;
            })
        | inr b ↦
            let same : left ≡ p = cc (b.1) in
            subst (Takes whole room depth names ts) same (record { phrase = s.phrase; parts = s.parts; spelled = one_sum room s.phrase names left.names left.expr s.spelled; limits = s.limits })
      ]

expression_some : (levels depth : ℕ) (names : Words) (ts : List Lexeme) (p : Parsed) → expression_at levels depth names ts ≡ Some p → TakesInside levels depth names ts p
unfolding expression_at
expression_some zero depth names ts p e = absurd cc
expression_some (suc levels) depth names ts p e =
    record { inside = levels; room-is = refl; taken = whole_some levels (expression_at levels) (expression_some levels) depth names ts p e }

if_empty_some : (rest : List Lexeme) (p q : Parsed) → if_empty rest p ≡ Some q → (rest ≡ []) × (p ≡ q)
if_empty_some [] p q e = (refl, cc)
if_empty_some (t ∷ ts) p q e = absurd cc

-- what all of the tokens are read as, they spell
pub read_spelled : (names : Words) (ts : List Lexeme) (p : Parsed) → all_of names ts ≡ Some p → SpellsExpression ts names p.expr p.names
read_spelled names ts p h =
    let b = bind_some (expression_at 65 64 names ts) (λ e. if_empty e.rest e) p h in
    let c = if_empty_some b.0.rest b.0 p b.2 in
    let s = expression_some 65 64 names ts b.0 b.1 in
    let room : s.inside ≡ 64 = omega (arith, s.room-is) in
    let phrase : ts ≡ s.taken.phrase = s.taken.parts ∙ ap (λ (w : List Lexeme). s.taken.phrase ++ w) c.0 ∙ append-nil s.taken.phrase in
    let spelled : Spells whole 64 ts names b.0.expr b.0.names =
    subst (λ (w : List Lexeme). Spells whole 64 w names b.0.expr b.0.names) (sym phrase)
    (subst (λ (k : ℕ). Spells whole k s.taken.phrase names b.0.expr b.0.names) room s.taken.spelled) in
    subst (λ (x : Parsed). SpellsExpression ts names x.expr x.names) c.1
    (record { spelled = spelled; shallow = s.taken.limits.shallow; few_nodes = s.taken.limits.few })

pub all_spelled : (names after : Words) (ts : List Lexeme) (e : Expr) → all_of names ts ≡ Some (parsed e after []) → SpellsExpression ts names e after
all_spelled names after ts e is = read_spelled names ts (parsed e after []) is
