-- What is read is spelled so.
use Rattle.std.proofs.Common.{◌≡◌, ℕ, false, List, [], ◌∷◌, ◌++◌, Some, inl, inr, refl, ap, ◌∙◌, subst, codes, ℤ, pos}
use Rattle.std.specs.Option.{option_map, option_map_or}
use Rattle.uts_lex.specs.Lexemes.{Lexeme}
use Rattle.uts_lex.specs.Names.{number_of, with_name}
use Rattle.kernel_ast.specs.declared.expression.Store.{Store}
use Rattle.kernel_ast.specs.declared.expression.How.{How}
use Rattle.kernel_ast.specs.declared.expression.How.TheVariants.{Same, Coarse}
use Rattle.kernel_ast.specs.declared.expression.Expr.TheVariants as expr
use Rattle.kernel_parse.specs.Signs.{word, sign, is_word, store_of, fine_of, is_reserved}
use Rattle.kernel_parse.specs.Grammar.{Words, SpellsSigned, SpellsOffset, offset, read_of, SpellsRead, own, coarse, fine, reduction}
use Rattle.kernel_parse.specs.Reading.{◌>>=◌, behind, behind_sign, name_of_token, first_as, signed_at, signed_behind, offset_at, Parsed, parsed, dot_name_at, read_by, fine_at, coarse_at, number_or_read, own_at, variable_at, dot_variable_at, read_at}
use Rattle.kernel_parse.proofs.Phrases.{joined_three}
use Rattle.kernel_parse.specs.Signed.{signed_some}
use Rattle.kernel_parse.specs.Firsts.{bind_some, branch_some, map_some, behind_sign_some, behind_word_some, first_as_some, name_some}

-- ---- offsets

signed_behind_some : (bytes : List ℕ) (ts : List Lexeme) (z : ℤ × List Lexeme) → signed_behind bytes ts ≡ Some z
    → (xs : List Lexeme) × (ts ≡ sign bytes ∷ xs ++ z.1) × SpellsSigned xs z.0
signed_behind_some bytes ts z e =
    let p = bind_some (behind_sign bytes ts) (λ rest. signed_at rest) z e in
    let s = signed_some p.0 z.0 z.1 p.2 in
    (s.phrase, behind_sign_some bytes ts p.0 p.1 ∙ ap (λ (w : List Lexeme). sign bytes ∷ w) s.parts, s.spelled)

pub record TakesOffset (ts : List Lexeme) (by : List ℤ × List Lexeme) : Type 0 where
  pub phrase : List Lexeme
  pub parts : ts ≡ phrase ++ by.1
  pub spelled : SpellsOffset phrase by.0

offset_some : (ts : List Lexeme) (by : List ℤ × List Lexeme) → offset_at ts ≡ Some by → TakesOffset ts by
unfolding offset_at
offset_some ts by e =
    let p = bind_some (signed_behind (codes "[") ts) (λ x. signed_behind (codes ",") x.1 >>= λ y. signed_behind (codes ",") y.1 >>= λ z. option_map (λ rest. (x.0 ∷ y.0 ∷ z.0 ∷ [], rest)) (behind_sign (codes "]") z.1)) by e in
    let x = p.0 in
    let q = bind_some (signed_behind (codes ",") x.1) (λ y. signed_behind (codes ",") y.1 >>= λ z. option_map (λ rest. (x.0 ∷ y.0 ∷ z.0 ∷ [], rest)) (behind_sign (codes "]") z.1)) by p.2 in
    let y = q.0 in
    let r = bind_some (signed_behind (codes ",") y.1) (λ z. option_map (λ rest. (x.0 ∷ y.0 ∷ z.0 ∷ [], rest)) (behind_sign (codes "]") z.1)) by q.2 in
    let z = r.0 in
    let m = map_some (λ (rest : List Lexeme). (x.0 ∷ y.0 ∷ z.0 ∷ [], rest)) (behind_sign (codes "]") z.1) by r.2 in
    let sx = signed_behind_some (codes "[") ts x p.1 in
    let sy = signed_behind_some (codes ",") x.1 y q.1 in
    let sz = signed_behind_some (codes ",") y.1 z r.1 in
    let last = behind_sign_some (codes "]") z.1 m.0 m.1 in
    let taken : TakesOffset ts (x.0 ∷ y.0 ∷ z.0 ∷ [], m.0) = record {
      phrase = sign (codes "[") ∷ sx.0 ++ sign (codes ",") ∷ sy.0 ++ sign (codes ",") ∷ sz.0 ++ sign (codes "]") ∷ [];
      parts = joined_three (sign (codes "[")) (sign (codes ",")) (sign (codes ",")) (sign (codes "]")) sx.0 sy.0 sz.0 m.0 x.1 y.1 z.1 ts sx.1 sy.1 sz.1 last;
      spelled = offset sx.0 sy.0 sz.0 x.0 y.0 z.0 sx.2 sy.2 sz.2;
    } in
    subst (TakesOffset ts) m.2 taken

-- ---- reads

-- the tokens at the front, behind some others, spell the read
pub record TakesRead (front : List Lexeme) (names : Words) (ts : List Lexeme) (p : Parsed) : Type 0 where
  pub phrase : List Lexeme
  pub parts : ts ≡ phrase ++ p.rest
  pub spelled : SpellsRead (front ++ phrase) names p.expr p.names

dot_name_some : (ts : List Lexeme) (name : List ℕ × List Lexeme) → dot_name_at ts ≡ Some name
    → (ts ≡ sign (codes ".") ∷ word name.0 ∷ name.1) × (is_reserved name.0 ≡ false)
unfolding dot_name_at
dot_name_some ts name e =
    let p = bind_some (behind_sign (codes ".") ts) (λ rest. first_as name_of_token rest) name e in
    let t = first_as_some name_of_token p.0 name.0 name.1 p.2 in
    let n = name_some t.0 name.0 t.2 in
    let dot = behind_sign_some (codes ".") ts p.0 p.1 in
    let second : p.0 ≡ word name.0 ∷ name.1 = t.1 ∙ ap (λ (l : Lexeme). l ∷ name.1) n.0 in
    (dot ∙ ap (λ (w : List Lexeme). sign (codes ".") ∷ w) second, n.1)

module _ (at : Lexeme) (store : Store) (is_store : store_of at ≡ Some store) (names : Words) where
  own_read_some : (name : List ℕ) (ts : List Lexeme) (p : Parsed) → is_reserved name ≡ false → read_by store Same names name ts ≡ Some p
      → TakesRead (at ∷ sign (codes ".") ∷ []) names (word name ∷ ts) p
  own_read_some name ts p free e =
      let m = map_some (λ (by : List ℤ × List Lexeme). parsed (read_of store Same names name by.0) (with_name names name) by.1) (offset_at ts) p e in
      let o = offset_some ts m.0 m.1 in
      subst (TakesRead (at ∷ sign (codes ".") ∷ []) names (word name ∷ ts)) m.2 (record {
        phrase = word name ∷ o.phrase;
        parts = ap (λ (w : List Lexeme). word name ∷ w) o.parts;
        spelled = own names at store name o.phrase m.0.0 is_store free o.spelled;
      })

  coarse_some : (ts : List Lexeme) (p : Parsed) → coarse_at store names ts ≡ Some p
      → TakesRead (at ∷ sign (codes ".") ∷ []) names (word (codes "coarse") ∷ ts) p
  coarse_some ts p e =
      let q = bind_some (dot_name_at ts) (λ name. read_by store Coarse names name.0 name.1) p e in
      let name = q.0 in
      let d = dot_name_some ts name q.1 in
      let m = map_some (λ (by : List ℤ × List Lexeme). parsed (read_of store Coarse names name.0 by.0) (with_name names name.0) by.1) (offset_at name.1) p q.2 in
      let o = offset_some name.1 m.0 m.1 in
      subst (TakesRead (at ∷ sign (codes ".") ∷ []) names (word (codes "coarse") ∷ ts)) m.2 (record {
        phrase = word (codes "coarse") ∷ sign (codes ".") ∷ word name.0 ∷ o.phrase;
        parts = ap (λ (w : List Lexeme). word (codes "coarse") ∷ w) (d.0 ∙ ap (λ (w : List Lexeme). sign (codes ".") ∷ word name.0 ∷ w) o.parts);
        spelled = coarse names at store name.0 o.phrase m.0.0 is_store d.1 o.spelled;
      })

  fine_some : (kind : Lexeme) (how : How) (ts : List Lexeme) (p : Parsed) → fine_of kind ≡ Some how → fine_at store how names ts ≡ Some p
      → TakesRead (at ∷ sign (codes ".") ∷ []) names (kind ∷ ts) p
  fine_some kind how ts p is_fine e =
      let m = map_some (λ (name : List ℕ × List Lexeme). parsed (read_of store how names name.0 (pos 0 ∷ pos 0 ∷ pos 0 ∷ [])) (with_name names name.0) name.1) (dot_name_at ts) p e in
      let name = m.0 in
      let d = dot_name_some ts name m.1 in
      subst (TakesRead (at ∷ sign (codes ".") ∷ []) names (kind ∷ ts)) m.2 (record {
        phrase = kind ∷ sign (codes ".") ∷ word name.0 ∷ [];
        parts = ap (λ (w : List Lexeme). kind ∷ w) d.0;
        spelled = fine names at kind store how name.0 is_store is_fine d.1;
      })

  own_some : (ts : List Lexeme) (p : Parsed) → own_at store names ts ≡ Some p → TakesRead (at ∷ sign (codes ".") ∷ []) names ts p
  own_some ts p e =
      let q = bind_some (first_as name_of_token ts) (λ name. number_or_read store names name.0 name.1) p e in
      let name = q.0 in
      let t = first_as_some name_of_token ts name.0 name.1 q.1 in
      let n = name_some t.0 name.0 t.2 in
      let ts-is : ts ≡ word name.0 ∷ name.1 = t.1 ∙ ap (λ (l : Lexeme). l ∷ name.1) n.0 in
      let taken : TakesRead (at ∷ sign (codes ".") ∷ []) names (word name.0 ∷ name.1) p =
      elim (branch_some (λ _. read_by store Same names name.0 name.1) (behind_sign (codes "[") name.1) (Some (parsed (expr.Number store (number_of names name.0)) (with_name names name.0) name.1)) p q.2) [
        | inl b ↦ own_read_some name.0 name.1 p n.1 b.2
        | inr b ↦
            let same : parsed (expr.Number store (number_of names name.0)) (with_name names name.0) name.1 ≡ p = cc (b.1) in
            subst (TakesRead (at ∷ sign (codes ".") ∷ []) names (word name.0 ∷ name.1)) same (record { phrase = word name.0 ∷ []; parts = refl; spelled = reduction names at store name.0 is_store n.1 })
      ] in
      rw ts-is taken

  variable_some : (ts : List Lexeme) (p : Parsed) → variable_at store names ts ≡ Some p → TakesRead (at ∷ sign (codes ".") ∷ []) names ts p
  unfolding variable_at
  variable_some ts p e =
      elim (branch_some (λ rest. coarse_at store names rest) (behind (is_word (codes "coarse")) ts)
      (option_map_or (λ kind. fine_at store kind.0 names kind.1) (first_as fine_of ts) (own_at store names ts)) p e) [
        | inl b ↦ rw (behind_word_some (codes "coarse") ts b.0 b.1) (coarse_some b.0 p b.2)
        | inr b ↦
            elim (branch_some (λ kind. fine_at store kind.0 names kind.1) (first_as fine_of ts) (own_at store names ts) p b.1) [
              | inl f ↦
                  let t = first_as_some fine_of ts f.0.0 f.0.1 f.1 in
                  rw t.1 (fine_some t.0 f.0.0 f.0.1 p t.2 f.2)
              | inr f ↦ own_some ts p f.1
            ]
      ]

pub read_some : (names : Words) (ts : List Lexeme) (p : Parsed) → read_at names ts ≡ Some p → TakesRead [] names ts p
unfolding read_at
read_some names ts p e =
    let q = bind_some (first_as store_of ts) (λ store. dot_variable_at store.0 names store.1) p e in
    let store = q.0 in
    let t = first_as_some store_of ts store.0 store.1 q.1 in
    let r = bind_some (behind_sign (codes ".") store.1) (λ rest. variable_at store.0 names rest) p q.2 in
    let v = variable_some t.0 store.0 t.2 names r.0 p r.2 in
    let dot = behind_sign_some (codes ".") store.1 r.0 r.1 in
    record {
      phrase = t.0 ∷ sign (codes ".") ∷ v.phrase;
      parts = t.1 ∙ ap (λ (w : List Lexeme). t.0 ∷ w) (dot ∙ ap (λ (w : List Lexeme). sign (codes ".") ∷ w) v.parts);
      spelled = v.spelled;
    }
