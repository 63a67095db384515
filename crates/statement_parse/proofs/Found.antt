-- What is read is spelled so.
use Rattle.std.proofs.Common.{◌≡◌, ℕ, ◌<◌, ◌≤◌, ◌^◌, false, List, [], ◌∷◌, ◌++◌, Option, Some, None, map, inl, inr, refl, sym, ap, ◌∙◌, subst, codes, ℤ, arith}
use Rattle.std.specs.Prelude.{nat_le, ◌==◌, if◌then◌else◌}
use Rattle.std.specs.Option.{option_map, option_map_or}
use Rattle.std.proofs.lemmas.List.{append-nil}
use Rattle.std.proofs.lemmas.Bool.Decides.{nat_tests}
use Rattle.uts_lex.specs.Lexemes.{Lexeme}
use Rattle.uts_lex.specs.Names.{number_of, with_name}
use Rattle.kernel_parse.specs.Signs.{word, number, sign, is_word, store_of, is_reserved}
use Rattle.kernel_parse.specs.Grammar.{Words}
use Rattle.kernel_parse.specs.Reading.{◌>>=◌, behind, behind_sign, number_of_token, name_of_token, first_as, signed_at, if_empty}
use Rattle.kernel_parse.specs.Signed.{signed_some}
use Rattle.kernel_parse.specs.Firsts.{bind_some, branch_some, test_some, map_some, behind_sign_some, behind_word_some, first_as_some, number_some, name_some}
use Rattle.uts_geom.specs.declared.centring.Centring.{Centring}
use Rattle.problem_types.specs.declared.problem.Fold.{Fold}
use Rattle.problem_types.specs.declared.problem.Ghost.{Ghost}
use Rattle.problem_types.specs.declared.problem.GhostKind.TheVariants as ghosts
use Rattle.problem_types.specs.declared.problem.What.{What}
use Rattle.problem_types.specs.declared.problem.What.TheVariants as what
use Rattle.problem_types.specs.declared.problem.WriteKind.{WriteKind}
use Rattle.problem_types.specs.declared.problem.WriteKind.TheVariants as write
use Rattle.statement_parse.specs.declared.statement.Corners.{Corners}
use Rattle.statement_parse.specs.declared.statement.Statement.{Statement}
use Rattle.statement_parse.specs.declared.statement.Statement.TheVariants as statement
use Rattle.statement_parse.specs.declared.statement.StatementKind.{StatementKind}
use Rattle.statement_parse.specs.declared.statement.StatementKind.TheVariants as kind
use Rattle.statement_parse.specs.Tables.{statement_words, statement_kind_of, centring_of, fold_of, ghosts_of, write_words, write_of}
use Rattle.statement_parse.specs.Grammar.{Fits, IsFree, AreNumbers, SpellsCorners, corners, SpellsLayers, no_layers, layers, SpellsWhat, same_level, coarser, finer, reduction, SpellsTarget, computes, modifies, reduces, SpellsStatement, version, steps, dump, ghost_limit, materials, level, box, patch, var, fold, init, task, requirement, timestep, keep, end}
use Rattle.statement_parse.specs.Reading.{Stated, stated, number_at, some_number_at, corner_at, corners_at, list_at, last_list_at, version_at, ratio_at, unnamed_at, name_at, var_parts_at, var_at, fold_parts_at, fold_at, keep_at, task_at, ghost_of, layers_at, layered_at, coarse_at, fine_at, own_at, what_at, requirement_at, said_at, statement_at, named_target_at, reduced_target_at, target_at}
use Rattle.uts_lex.specs.declared.token.Kind.TheVariants.{Word}
use Rattle.kernel_parse.specs.Tables.{meaning_case}
use Rattle.statement_parse.proofs.Lists.{list_some}

-- ---- pieces

pub if_empty_some : {A : Type 0} (rest : List Lexeme) (p q : A) → if_empty rest p ≡ Some q → (rest ≡ []) × (p ≡ q)
if_empty_some [] p q e = (refl, cc)
if_empty_some (t ∷ ts) p q e = absurd cc

-- a word that stands first, or what follows where it does not
keyword_case : {B : Type 0} (bytes : List ℕ) (f : List Lexeme → Option B) (d : Option B) (ts : List Lexeme) (y : B) (P : List Lexeme → Type 0)
    → option_map_or f (behind (is_word bytes) ts) d ≡ Some y
    → ((rest : List Lexeme) → f rest ≡ Some y → P (word bytes ∷ rest)) → (d ≡ Some y → P ts) → P ts
keyword_case bytes f d ts y P e taken other =
    elim (branch_some f (behind (is_word bytes) ts) d y e) [
      | inl b ↦ subst P (sym (behind_word_some bytes ts b.0 b.1)) (taken b.0 b.2)
      | inr b ↦ other b.1
    ]

first_number : (ts : List Lexeme) (n : ℕ × List Lexeme) → first_as number_of_token ts ≡ Some n → (ts ≡ number n.0 ∷ n.1) × (n.0 < 2 ^ 64)
first_number ts n e =
    let t = first_as_some number_of_token ts n.0 n.1 e in
    let s = number_some t.0 n.0 t.2 in
    (t.1 ∙ ap (λ (l : Lexeme). l ∷ n.1) s.0, s.1)

first_name : (ts : List Lexeme) (n : List ℕ × List Lexeme) → first_as name_of_token ts ≡ Some n → (ts ≡ word n.0 ∷ n.1) × (is_reserved n.0 ≡ false)
first_name ts n e =
    let t = first_as_some name_of_token ts n.0 n.1 e in
    let s = name_some t.0 n.0 t.2 in
    (t.1 ∙ ap (λ (l : Lexeme). l ∷ n.1) s.0, s.1)

number_at_some : (ts : List Lexeme) (n : ℕ) → number_at ts ≡ Some n → (ts ≡ number n ∷ []) × Fits n
unfolding number_at
number_at_some ts n e =
    let p = bind_some (first_as number_of_token ts) (λ (n : ℕ × List Lexeme). if_empty n.1 n.0) n e in
    let t = first_number ts p.0 p.1 in
    let q = if_empty_some p.0.1 p.0.0 n p.2 in
    (t.0 ∙ ap (λ (w : List Lexeme). number p.0.0 ∷ w) q.0 ∙ ap (λ (m : ℕ). number m ∷ []) q.1, subst (λ (m : ℕ). m < 2 ^ 64) q.1 t.1)

some_number_some : (ts : List Lexeme) (n : ℕ) → some_number_at ts ≡ Some n → (ts ≡ number n ∷ []) × Fits n × (1 ≤ n)
unfolding some_number_at
some_number_some ts n e =
    let p = bind_some (number_at ts) (λ (n : ℕ). if nat_le 1 n then Some n else None) n e in
    let t = test_some (nat_le 1 p.0) p.0 n p.2 in
    let some : 1 ≤ p.0 = grind (arith, nat_tests, t.0) in
    let s = number_at_some ts p.0 p.1 in
    (s.0 ∙ ap (λ (m : ℕ). number m ∷ []) t.1, subst (λ (m : ℕ). m < 2 ^ 64) t.1 s.1, subst (λ (m : ℕ). 1 ≤ m) t.1 some)

name_at_some : (ts : List Lexeme) (name : List ℕ) → name_at ts ≡ Some name → (ts ≡ word name ∷ []) × IsFree name
unfolding name_at
name_at_some ts name e =
    let p = bind_some (first_as name_of_token ts) (λ (n : List ℕ × List Lexeme). if_empty n.1 n.0) name e in
    let t = first_name ts p.0 p.1 in
    let q = if_empty_some p.0.1 p.0.0 name p.2 in
    (t.0 ∙ ap (λ (w : List Lexeme). word p.0.0 ∷ w) q.0 ∙ ap (λ (m : List ℕ). word m ∷ []) q.1, subst (λ (m : List ℕ). is_reserved m ≡ false) q.1 t.1)

-- ---- corners

record TakesCorner (ts : List Lexeme) (r : List ℕ × List Lexeme) : Type 0 where
  a : ℕ
  b : ℕ
  c : ℕ
  a_fits : Fits a
  b_fits : Fits b
  c_fits : Fits c
  parts : ts ≡ number a ∷ number b ∷ number c ∷ r.1
  is : r.0 ≡ a ∷ b ∷ c ∷ []

abbrev three : ℕ × List Lexeme → ℕ × List Lexeme → ℕ × List Lexeme → Option (List ℕ × List Lexeme)
three a b c = Some (a.0 ∷ b.0 ∷ c.0 ∷ [], c.1)

corner_some : (ts : List Lexeme) (r : List ℕ × List Lexeme) → corner_at ts ≡ Some r → TakesCorner ts r
unfolding corner_at
corner_some ts r e =
    let p = bind_some (first_as number_of_token ts) (λ (a : ℕ × List Lexeme). first_as number_of_token a.1 >>= λ b. first_as number_of_token b.1 >>= λ c. three a b c) r e in
    let a = p.0 in
    let q = bind_some (first_as number_of_token a.1) (λ (b : ℕ × List Lexeme). first_as number_of_token b.1 >>= λ c. three a b c) r p.2 in
    let b = q.0 in
    let o = bind_some (first_as number_of_token b.1) (λ (c : ℕ × List Lexeme). three a b c) r q.2 in
    let c = o.0 in
    let is : (a.0 ∷ b.0 ∷ c.0 ∷ [], c.1) ≡ r = cc (o.2) in
    let fa = first_number ts a p.1 in
    let fb = first_number a.1 b q.1 in
    let fc = first_number b.1 c o.1 in
    subst (TakesCorner ts) is (record {
      a = a.0;
      b = b.0;
      c = c.0;
      a_fits = fa.1;
      b_fits = fb.1;
      c_fits = fc.1;
      parts = fa.0 ∙ ap (λ (w : List Lexeme). number a.0 ∷ w) (fb.0 ∙ ap (λ (w : List Lexeme). number b.0 ∷ w) fc.0);
      is = refl;
    })

abbrev two : List ℕ → List ℕ → Corners
two lo hi = record { lo = lo; hi = hi }

corners_some : (ts : List Lexeme) (c : Corners) → corners_at ts ≡ Some c → SpellsCorners ts c
unfolding corners_at
corners_some ts c e =
    let p = bind_some (corner_at ts) (λ (lo : List ℕ × List Lexeme). corner_at lo.1 >>= λ hi. if_empty hi.1 (two lo.0 hi.0)) c e in
    let lo = p.0 in
    let q = bind_some (corner_at lo.1) (λ (hi : List ℕ × List Lexeme). if_empty hi.1 (two lo.0 hi.0)) c p.2 in
    let hi = q.0 in
    let o = if_empty_some hi.1 (two lo.0 hi.0) c q.2 in
    let l = corner_some ts lo p.1 in
    let h = corner_some lo.1 hi q.1 in
    let low = l.a ∷ l.b ∷ l.c ∷ [] in
    let high = h.a ∷ h.b ∷ h.c ∷ [] in
    let parts : ts ≡ number l.a ∷ number l.b ∷ number l.c ∷ number h.a ∷ number h.b ∷ number h.c ∷ [] =
    l.parts ∙ ap (λ (w : List Lexeme). number l.a ∷ number l.b ∷ number l.c ∷ w) (h.parts ∙ ap (λ (w : List Lexeme). number h.a ∷ number h.b ∷ number h.c ∷ w) o.0) in
    let is : two low high ≡ c = ap (λ (x : List ℕ). two low x) (sym h.is) ∙ ap (λ (x : List ℕ). two x hi.0) (sym l.is) ∙ o.1 in
    subst (λ (w : List Lexeme). SpellsCorners w c) (sym parts)
    (subst (SpellsCorners (number l.a ∷ number l.b ∷ number l.c ∷ number h.a ∷ number h.b ∷ number h.c ∷ [])) is
    (corners l.a l.b l.c h.a h.b h.c l.a_fits l.b_fits l.c_fits h.a_fits h.b_fits h.c_fits))

-- ---- layers and requirements

layers_some : (ts : List Lexeme) (g : Ghost) → layers_at ts ≡ Some g → SpellsLayers ts g
unfolding layers_at
layers_some ts g e =
    keyword_case (codes "none") (λ rest. if_empty rest (ghost_of ghosts.None 0)) (first_as ghosts_of ts >>= λ kind. option_map (λ n. ghost_of kind.0 n) (some_number_at kind.1)) ts g (λ w. SpellsLayers w g) e
    (λ rest h.
    let q = if_empty_some rest (ghost_of ghosts.None 0) g h in
    subst (λ (w : List Lexeme). SpellsLayers (word (codes "none") ∷ w) g) (sym q.0) (subst (SpellsLayers (word (codes "none") ∷ [])) q.1 no_layers))
    (λ h.
    let p = bind_some (first_as ghosts_of ts) (λ kind. option_map (λ n. ghost_of kind.0 n) (some_number_at kind.1)) g h in
    let kind = p.0 in
    let m = map_some (λ (n : ℕ). ghost_of kind.0 n) (some_number_at kind.1) g p.2 in
    let t = first_as_some ghosts_of ts kind.0 kind.1 p.1 in
    let s = some_number_some kind.1 m.0 m.1 in
    let parts : ts ≡ t.0 ∷ number m.0 ∷ [] = t.1 ∙ ap (λ (w : List Lexeme). t.0 ∷ w) s.0 in
    subst (λ (w : List Lexeme). SpellsLayers w g) (sym parts) (subst (SpellsLayers (t.0 ∷ number m.0 ∷ [])) m.2 (layers t.0 kind.0 m.0 t.2 s.2 s.1)))

layered_some : (ts : List Lexeme) (p : List ℕ × Ghost) → layered_at ts ≡ Some p → (ws : List Lexeme) × (ts ≡ word p.0 ∷ ws) × IsFree p.0 × SpellsLayers ws p.1
unfolding layered_at
layered_some ts p e =
    let q = bind_some (first_as name_of_token ts) (λ (name : List ℕ × List Lexeme). option_map (λ g. (name.0, g)) (layers_at name.1)) p e in
    let name = q.0 in
    let m = map_some (λ (g : Ghost). (name.0, g)) (layers_at name.1) p q.2 in
    let t = first_name ts name q.1 in
    let l = layers_some name.1 m.0 m.1 in
    subst (λ (p : List ℕ × Ghost). (ws : List Lexeme) × (ts ≡ word p.0 ∷ ws) × IsFree p.0 × SpellsLayers ws p.1) m.2 (name.1, t.0, t.1, l)

abbrev coarse_of : Words → List ℕ × Ghost → What × Words
coarse_of names p = (what.Coarse (number_of names p.0) p.1, with_name names p.0)

abbrev fine_of : Words → List ℕ → What × Words
fine_of names name = (what.Fine (number_of names name), with_name names name)

abbrev number_what : Words → List ℕ → What × Words
number_what names name = (what.Number (number_of names name), with_name names name)

abbrev same_of : Words → List ℕ × Ghost → What × Words
same_of names p = (what.Same (number_of names p.0) p.1, with_name names p.0)

coarse_some : (names : Words) (ts : List Lexeme) (w : What × Words) → coarse_at names ts ≡ Some w → SpellsWhat (word (codes "coarse") ∷ ts) names w.0 w.1
unfolding coarse_at
coarse_some names ts w e =
    let m = map_some (coarse_of names) (layered_at ts) w e in
    let l = layered_some ts m.0 m.1 in
    subst (λ (w : What × Words). SpellsWhat (word (codes "coarse") ∷ ts) names w.0 w.1) m.2
    (subst (λ (u : List Lexeme). SpellsWhat (word (codes "coarse") ∷ u) names (coarse_of names m.0).0 (coarse_of names m.0).1) (sym l.1) (coarser names m.0.0 l.0 m.0.1 l.2 l.3))

fine_some : (names : Words) (ts : List Lexeme) (w : What × Words) → fine_at names ts ≡ Some w → SpellsWhat (word (codes "fine") ∷ ts) names w.0 w.1
unfolding fine_at
fine_some names ts w e =
    let m = map_some (fine_of names) (name_at ts) w e in
    let l = name_at_some ts m.0 m.1 in
    subst (λ (w : What × Words). SpellsWhat (word (codes "fine") ∷ ts) names w.0 w.1) m.2
    (subst (λ (u : List Lexeme). SpellsWhat (word (codes "fine") ∷ u) names (fine_of names m.0).0 (fine_of names m.0).1) (sym l.0) (finer names m.0 l.1))

own_some : (names : Words) (ts : List Lexeme) (w : What × Words) → own_at names ts ≡ Some w → SpellsWhat ts names w.0 w.1
unfolding own_at
own_some names ts w e =
    elim (branch_some (λ (name : List ℕ). Some (number_what names name)) (name_at ts) (option_map (same_of names) (layered_at ts)) w e) [
      | inl b ↦
          let same : number_what names b.0 ≡ w = cc (b.2) in
          let l = name_at_some ts b.0 b.1 in
          subst (λ (w : What × Words). SpellsWhat ts names w.0 w.1) same
          (subst (λ (u : List Lexeme). SpellsWhat u names (number_what names b.0).0 (number_what names b.0).1) (sym l.0) (reduction names b.0 l.1))
      | inr b ↦
          let m = map_some (same_of names) (layered_at ts) w b.1 in
          let l = layered_some ts m.0 m.1 in
          subst (λ (w : What × Words). SpellsWhat ts names w.0 w.1) m.2
          (subst (λ (u : List Lexeme). SpellsWhat u names (same_of names m.0).0 (same_of names m.0).1) (sym l.1) (same_level names m.0.0 l.0 m.0.1 l.2 l.3))
    ]

what_some : (names : Words) (ts : List Lexeme) (w : What × Words) → what_at names ts ≡ Some w → SpellsWhat ts names w.0 w.1
unfolding what_at
what_some names ts w e =
    keyword_case (codes "coarse") (λ rest. coarse_at names rest) (option_map_or (λ rest. fine_at names rest) (behind (is_word (codes "fine")) ts) (own_at names ts)) ts w (λ u. SpellsWhat u names w.0 w.1) e
    (λ rest h. coarse_some names rest w h)
    (λ h. keyword_case (codes "fine") (λ rest. fine_at names rest) (own_at names ts) ts w (λ u. SpellsWhat u names w.0 w.1) h
    (λ rest h. fine_some names rest w h) (λ h. own_some names ts w h))

-- ---- statements

-- the same by other names
respelled : (ts us : List Lexeme) (names after : Words) (s t : Statement) → us ≡ ts → s ≡ t → SpellsStatement ts names s after → SpellsStatement us names t after
respelled ts us names after s t tokens is spelled =
    subst (λ (w : List Lexeme). SpellsStatement w names t after) (sym tokens) (subst (λ (x : Statement). SpellsStatement ts names x after) is spelled)

abbrev Says : List Lexeme → Words → Stated → Type 0
Says ts names r = SpellsStatement ts names r.statement r.names

-- what is read behind the first word
restated : (first : Lexeme) (ts us : List Lexeme) (names : Words) (r q : Stated) → us ≡ ts → r ≡ q → Says (first ∷ ts) names r → Says (first ∷ us) names q
restated first ts us names r q tokens is spelled =
    subst (λ (w : List Lexeme). Says (first ∷ w) names q) (sym tokens) (subst (λ (x : Stated). Says (first ∷ ts) names x) is spelled)

version_some : (ts : List Lexeme) (n : ℕ) → version_at ts ≡ Some n → (ts ≡ number 1 ∷ []) × (1 ≡ n)
unfolding version_at
version_some ts n e =
    let p = bind_some (number_at ts) (λ (m : ℕ). if m == 1 then Some m else None) n e in
    let q = number_at_some ts p.0 p.1 in
    let t = test_some (p.0 == 1) p.0 n p.2 in
    let one : p.0 ≡ 1 = grind (arith, nat_tests, t.0) in
    (q.0 ∙ ap (λ (m : ℕ). number m ∷ []) one, sym one ∙ t.1)

ratio_some : (ts : List Lexeme) (n : ℕ) → ratio_at ts ≡ Some n → (ts ≡ word (codes "ratio") ∷ number n ∷ []) × Fits n
unfolding ratio_at
ratio_some ts n e =
    let p = bind_some (behind (is_word (codes "ratio")) ts) (λ (rest : List Lexeme). number_at rest) n e in
    let q = number_at_some p.0 n p.2 in
    (behind_word_some (codes "ratio") ts p.0 p.1 ∙ ap (λ (w : List Lexeme). word (codes "ratio") ∷ w) q.0, q.1)

-- the first word of a statement that does not write
first_word : StatementKind → List ℕ
first_word kind.Version = codes "problem"
first_word kind.Steps = codes "steps"
first_word kind.Dump = codes "dump"
first_word kind.Ghost = codes "ghost"
first_word kind.Materials = codes "materials"
first_word kind.Level = codes "level"
first_word kind.Box = codes "box"
first_word kind.Patch = codes "patch"
first_word kind.Var = codes "var"
first_word kind.Reduction = codes "reduction"
first_word kind.Init = codes "init"
first_word kind.Task = codes "task"
first_word kind.Require = codes "requires"
first_word kind.Write = []
first_word kind.Timestep = codes "timestep"
first_word kind.Keep = codes "keep"
first_word kind.End = codes "end"

kind_some : (t : Lexeme) (k : StatementKind) → statement_kind_of t ≡ Some k → t ≡ word (first_word k)
unfolding first_word
kind_some t k e =
    meaning_case Word (λ (l : Lexeme) (x : StatementKind). l ≡ word (first_word x)) statement_words t k e
    (refl, (refl, (refl, (refl, (refl, (refl, (refl, (refl, (refl, (refl, (refl, (refl, (refl, (refl, (refl, (refl, tt))))))))))))))))

module _ (names : Words) where
  -- what was made of what was read
  made_some : {A : Type 0} (make : A → Statement) (read : Option A) (ts : List Lexeme) (s : Statement) → option_map make read ≡ Some s
      → ((a : A) → read ≡ Some a → SpellsStatement ts names (make a) names) → SpellsStatement ts names s names
  made_some make read ts s e spelled =
      let m = map_some make read s e in
      subst (λ (x : Statement). SpellsStatement ts names x names) m.2 (spelled m.0 m.1)

  mark_some : (first : Lexeme) (made : Statement) (ts : List Lexeme) (s : Statement) → if_empty ts made ≡ Some s
      → SpellsStatement (first ∷ []) names made names → SpellsStatement (first ∷ ts) names s names
  mark_some first made ts s e spelled =
      let q = if_empty_some ts made s e in
      respelled (first ∷ []) (first ∷ ts) names names made s (ap (λ (w : List Lexeme). first ∷ w) q.0) q.1 spelled

  moved : (first : Lexeme) (ts us : List Lexeme) (s : Statement) → us ≡ ts → SpellsStatement (first ∷ ts) names s names → SpellsStatement (first ∷ us) names s names
  moved first ts us s is spelled = subst (λ (w : List Lexeme). SpellsStatement (first ∷ w) names s names) (sym is) spelled

  unnamed_some : (k : StatementKind) (ts : List Lexeme) (s : Statement) → unnamed_at k ts ≡ Some s → SpellsStatement (word (first_word k) ∷ ts) names s names
  unfolding unnamed_at first_word
  unnamed_some kind.Version ts s e =
      made_some (λ n. statement.Version n) (version_at ts) (word (codes "problem") ∷ ts) s e
      (λ n is. let v = version_some ts n is in respelled (word (codes "problem") ∷ number 1 ∷ []) (word (codes "problem") ∷ ts) names names (statement.Version 1) (statement.Version n)
      (ap (λ (w : List Lexeme). word (codes "problem") ∷ w) v.0) (ap (λ (m : ℕ). statement.Version m) v.1) (version names))
  unnamed_some kind.Steps ts s e =
      made_some (λ n. statement.Steps n) (number_at ts) (word (codes "steps") ∷ ts) s e
      (λ n is. let v = number_at_some ts n is in moved (word (codes "steps")) (number n ∷ []) ts (statement.Steps n) v.0 (steps names n v.1))
  unnamed_some kind.Dump ts s e =
      made_some (λ n. statement.Dump n) (some_number_at ts) (word (codes "dump") ∷ ts) s e
      (λ n is. let v = some_number_some ts n is in moved (word (codes "dump")) (number n ∷ []) ts (statement.Dump n) v.0 (dump names n v.2 v.1))
  unnamed_some kind.Ghost ts s e =
      made_some (λ n. statement.Ghost n) (number_at ts) (word (codes "ghost") ∷ ts) s e
      (λ n is. let v = number_at_some ts n is in moved (word (codes "ghost")) (number n ∷ []) ts (statement.Ghost n) v.0 (ghost_limit names n v.1))
  unnamed_some kind.Materials ts s e =
      made_some (λ n. statement.Materials n) (some_number_at ts) (word (codes "materials") ∷ ts) s e
      (λ n is. let v = some_number_some ts n is in moved (word (codes "materials")) (number n ∷ []) ts (statement.Materials n) v.0 (materials names n v.2 v.1))
  unnamed_some kind.Level ts s e =
      made_some (λ n. statement.Level n) (ratio_at ts) (word (codes "level") ∷ ts) s e
      (λ n is. let v = ratio_some ts n is in moved (word (codes "level")) (word (codes "ratio") ∷ number n ∷ []) ts (statement.Level n) v.0 (level names n v.1))
  unnamed_some kind.Box ts s e = made_some (λ c. statement.Box c) (corners_at ts) (word (codes "box") ∷ ts) s e (λ c is. box names ts c (corners_some ts c is))
  unnamed_some kind.Patch ts s e = made_some (λ c. statement.Patch c) (corners_at ts) (word (codes "patch") ∷ ts) s e (λ c is. patch names ts c (corners_some ts c is))
  unnamed_some kind.Init ts s e = mark_some (word (codes "init")) statement.Init ts s e (init names)
  unnamed_some kind.Timestep ts s e = mark_some (word (codes "timestep")) statement.Timestep ts s e (timestep names)
  unnamed_some kind.End ts s e = mark_some (word (codes "end")) statement.End ts s e (end names)
  unnamed_some k ts s e = absurd cc

-- ---- statements with a name

abbrev var_of : Words → List ℕ × Centring × ℤ → Stated
var_of names p = stated (statement.Var (number_of names p.0) p.1 p.2) (with_name names p.0)

var_parts_some : (names : Words) (ts : List Lexeme) (p : List ℕ × Centring × ℤ) → var_parts_at ts ≡ Some p → Says (word (codes "var") ∷ ts) names (var_of names p)
unfolding var_parts_at
var_parts_some names ts p e =
    let b1 = bind_some (first_as name_of_token ts) (λ (name : List ℕ × List Lexeme). first_as centring_of name.1 >>= λ at. behind (is_word (codes "outside")) at.1 >>= λ rest. signed_at rest >>= λ z. if_empty z.1 (name.0, at.0, z.0)) p e in
    let name = b1.0 in
    let b2 = bind_some (first_as centring_of name.1) (λ (at : Centring × List Lexeme). behind (is_word (codes "outside")) at.1 >>= λ rest. signed_at rest >>= λ z. if_empty z.1 (name.0, at.0, z.0)) p b1.2 in
    let at = b2.0 in
    let b3 = bind_some (behind (is_word (codes "outside")) at.1) (λ (rest : List Lexeme). signed_at rest >>= λ z. if_empty z.1 (name.0, at.0, z.0)) p b2.2 in
    let rest = b3.0 in
    let b4 = bind_some (signed_at rest) (λ (z : ℤ × List Lexeme). if_empty z.1 (name.0, at.0, z.0)) p b3.2 in
    let z = b4.0 in
    let q = if_empty_some z.1 (name.0, at.0, z.0) p b4.2 in
    let n = first_name ts name b1.1 in
    let c = first_as_some centring_of name.1 at.0 at.1 b2.1 in
    let o = behind_word_some (codes "outside") at.1 rest b3.1 in
    let s = signed_some rest z.0 z.1 b4.1 in
    let end_is : rest ≡ s.phrase = s.parts ∙ ap (λ (w : List Lexeme). s.phrase ++ w) q.0 ∙ append-nil s.phrase in
    let tokens : ts ≡ word name.0 ∷ c.0 ∷ word (codes "outside") ∷ s.phrase =
    n.0 ∙ ap (λ (w : List Lexeme). word name.0 ∷ w) (c.1 ∙ ap (λ (w : List Lexeme). c.0 ∷ w) (o ∙ ap (λ (w : List Lexeme). word (codes "outside") ∷ w) end_is)) in
    restated (word (codes "var")) (word name.0 ∷ c.0 ∷ word (codes "outside") ∷ s.phrase) ts names (var_of names (name.0, at.0, z.0)) (var_of names p) tokens (ap (var_of names) q.1)
    (var names name.0 c.0 at.0 s.phrase z.0 n.1 c.2 s.spelled)

var_some : (names : Words) (ts : List Lexeme) (r : Stated) → var_at names ts ≡ Some r → Says (word (codes "var") ∷ ts) names r
unfolding var_at
var_some names ts r e =
    let m = map_some (var_of names) (var_parts_at ts) r e in
    subst (Says (word (codes "var") ∷ ts) names) m.2 (var_parts_some names ts m.0 m.1)

abbrev reduction_of : Words → List ℕ × Fold → Stated
reduction_of names p = stated (statement.Reduction (number_of names p.0) p.1) (with_name names p.0)

fold_parts_some : (names : Words) (ts : List Lexeme) (p : List ℕ × Fold) → fold_parts_at ts ≡ Some p → Says (word (codes "reduction") ∷ ts) names (reduction_of names p)
unfolding fold_parts_at
fold_parts_some names ts p e =
    let b1 = bind_some (first_as name_of_token ts) (λ (name : List ℕ × List Lexeme). first_as fold_of name.1 >>= λ f. if_empty f.1 (name.0, f.0)) p e in
    let name = b1.0 in
    let b2 = bind_some (first_as fold_of name.1) (λ (f : Fold × List Lexeme). if_empty f.1 (name.0, f.0)) p b1.2 in
    let f = b2.0 in
    let q = if_empty_some f.1 (name.0, f.0) p b2.2 in
    let n = first_name ts name b1.1 in
    let c = first_as_some fold_of name.1 f.0 f.1 b2.1 in
    let tokens : ts ≡ word name.0 ∷ c.0 ∷ [] = n.0 ∙ ap (λ (w : List Lexeme). word name.0 ∷ w) (c.1 ∙ ap (λ (w : List Lexeme). c.0 ∷ w) q.0) in
    restated (word (codes "reduction")) (word name.0 ∷ c.0 ∷ []) ts names (reduction_of names (name.0, f.0)) (reduction_of names p) tokens (ap (reduction_of names) q.1)
    (fold names name.0 c.0 f.0 n.1 c.2)

fold_some : (names : Words) (ts : List Lexeme) (r : Stated) → fold_at names ts ≡ Some r → Says (word (codes "reduction") ∷ ts) names r
unfolding fold_at
fold_some names ts r e =
    let m = map_some (reduction_of names) (fold_parts_at ts) r e in
    subst (Says (word (codes "reduction") ∷ ts) names) m.2 (fold_parts_some names ts m.0 m.1)

abbrev keep_of : Words → List ℕ → Stated
keep_of names name = stated (statement.Keep (number_of names name)) (with_name names name)

keep_some : (names : Words) (ts : List Lexeme) (r : Stated) → keep_at names ts ≡ Some r → Says (word (codes "keep") ∷ ts) names r
unfolding keep_at
keep_some names ts r e =
    let m = map_some (keep_of names) (name_at ts) r e in
    let l = name_at_some ts m.0 m.1 in
    restated (word (codes "keep")) (word m.0 ∷ []) ts names (keep_of names m.0) r l.0 m.2 (keep names m.0 l.1)

abbrev task_of : Words → List ℕ → List ℕ → List ℕ → Stated
task_of names name levels numbers = stated (statement.Task (number_of names name) levels numbers) (with_name names name)

last_list_some : (ts : List Lexeme) (numbers : List ℕ) → last_list_at ts ≡ Some numbers → (ts ≡ map number numbers) × AreNumbers numbers
unfolding last_list_at
last_list_some ts numbers e =
    let p = bind_some (list_at ts) (λ (l : List ℕ × List Lexeme). if_empty l.1 l.0) numbers e in
    let l = list_some ts p.0 p.1 in
    let q = if_empty_some p.0.1 p.0.0 numbers p.2 in
    let tokens : ts ≡ map number p.0.0 = l.0 ∙ ap (λ (w : List Lexeme). map number p.0.0 ++ w) q.0 ∙ append-nil (map number p.0.0) in
    subst (λ (w : List ℕ). (ts ≡ map number w) × AreNumbers w) q.1 (tokens, l.1)

task_some : (names : Words) (ts : List Lexeme) (r : Stated) → task_at names ts ≡ Some r → Says (word (codes "task") ∷ ts) names r
unfolding task_at
task_some names ts r e =
    let b1 = bind_some (first_as name_of_token ts) (λ (name : List ℕ × List Lexeme). behind (is_word (codes "levels")) name.1 >>= λ at. list_at at >>= λ levels. behind (is_word (codes "materials")) levels.1 >>= λ here. last_list_at here >>= λ numbers. Some (task_of names name.0 levels.0 numbers)) r e in
    let name = b1.0 in
    let b2 = bind_some (behind (is_word (codes "levels")) name.1) (λ (at : List Lexeme). list_at at >>= λ levels. behind (is_word (codes "materials")) levels.1 >>= λ here. last_list_at here >>= λ numbers. Some (task_of names name.0 levels.0 numbers)) r b1.2 in
    let at = b2.0 in
    let b3 = bind_some (list_at at) (λ (levels : List ℕ × List Lexeme). behind (is_word (codes "materials")) levels.1 >>= λ here. last_list_at here >>= λ numbers. Some (task_of names name.0 levels.0 numbers)) r b2.2 in
    let levels = b3.0 in
    let b4 = bind_some (behind (is_word (codes "materials")) levels.1) (λ (here : List Lexeme). last_list_at here >>= λ numbers. Some (task_of names name.0 levels.0 numbers)) r b3.2 in
    let here = b4.0 in
    let b5 = bind_some (last_list_at here) (λ (numbers : List ℕ). Some (task_of names name.0 levels.0 numbers)) r b4.2 in
    let found = b5.0 in
    let is : task_of names name.0 levels.0 found ≡ r = cc (b5.2) in
    let n = first_name ts name b1.1 in
    let wl = behind_word_some (codes "levels") name.1 at b2.1 in
    let ll = list_some at levels b3.1 in
    let wm = behind_word_some (codes "materials") levels.1 here b4.1 in
    let lm = last_list_some here found b5.1 in
    let at_is : at ≡ map number levels.0 ++ (word (codes "materials") ∷ map number found) =
    ll.0 ∙ ap (λ (w : List Lexeme). map number levels.0 ++ w) (wm ∙ ap (λ (w : List Lexeme). word (codes "materials") ∷ w) lm.0) in
    let phrase = word name.0 ∷ word (codes "levels") ∷ (map number levels.0 ++ (word (codes "materials") ∷ map number found)) in
    let tokens : ts ≡ phrase = n.0 ∙ ap (λ (w : List Lexeme). word name.0 ∷ w) (wl ∙ ap (λ (w : List Lexeme). word (codes "levels") ∷ w) at_is) in
    restated (word (codes "task")) phrase ts names (task_of names name.0 levels.0 found) r tokens is (task names name.0 levels.0 found n.1 ll.1 lm.1)

requirement_some : (names : Words) (ts : List Lexeme) (r : Stated) → requirement_at names ts ≡ Some r → Says (word (codes "requires") ∷ ts) names r
unfolding requirement_at
requirement_some names ts r e =
    let p = bind_some (first_as store_of ts) (λ store. option_map (λ w. stated (statement.Require store.0 w.0) w.1) (what_at names store.1)) r e in
    let store = p.0 in
    let m = map_some (λ (w : What × Words). stated (statement.Require store.0 w.0) w.1) (what_at names store.1) r p.2 in
    let t = first_as_some store_of ts store.0 store.1 p.1 in
    restated (word (codes "requires")) (t.0 ∷ store.1) ts names (stated (statement.Require store.0 m.0.0) m.0.1) r t.1 m.2
    (requirement names m.0.1 t.0 store.0 store.1 m.0.0 t.2 (what_some names store.1 m.0 m.1))

said_some : (k : StatementKind) (names : Words) (ts : List Lexeme) (r : Stated) → said_at k names ts ≡ Some r → Says (word (first_word k) ∷ ts) names r
unfolding said_at first_word
said_some kind.Var names ts r e = var_some names ts r e
said_some kind.Reduction names ts r e = fold_some names ts r e
said_some kind.Task names ts r e = task_some names ts r e
said_some kind.Require names ts r e = requirement_some names ts r e
said_some kind.Keep names ts r e = keep_some names ts r e
said_some k names ts r e =
    let m = map_some (λ (s : Statement). stated s names) (unnamed_at k ts) r e in
    subst (Says (word (first_word k) ∷ ts) names) m.2 (unnamed_some names k ts m.0 m.1)

pub statement_some : (names : Words) (ts : List Lexeme) (r : Stated) → statement_at names ts ≡ Some r → SpellsStatement ts names r.statement r.names
unfolding statement_at
statement_some names ts r e =
    let p = bind_some (first_as statement_kind_of ts) (λ (k : StatementKind × List Lexeme). said_at k.0 names k.1) r e in
    let k = p.0 in
    let t = first_as_some statement_kind_of ts k.0 k.1 p.1 in
    let tokens : ts ≡ word (first_word k.0) ∷ k.1 = t.1 ∙ ap (λ (l : Lexeme). l ∷ k.1) (kind_some t.0 k.0 t.2) in
    subst (λ (w : List Lexeme). Says w names r) (sym tokens) (said_some k.0 names k.1 r p.2)

-- ---- writes

-- the tokens up to the `=` spell the target
pub record TakesTarget (ts : List Lexeme) (r : List ℕ × WriteKind × List Lexeme) : Type 0 where
  pub phrase : List Lexeme
  pub parts : ts ≡ phrase ++ (sign (codes "=") ∷ r.2)
  pub spelled : SpellsTarget phrase r.0 r.1
  pub free : IsFree r.0

named_target_some : (first : Lexeme) (kind : WriteKind) → ((name : List ℕ) → SpellsTarget (first ∷ word name ∷ []) name kind)
    → (ts : List Lexeme) (r : List ℕ × WriteKind × List Lexeme) → named_target_at kind ts ≡ Some r → TakesTarget (first ∷ ts) r
named_target_some first kind rule ts r e =
    let p = bind_some (first_as name_of_token ts) (λ (name : List ℕ × List Lexeme). option_map (λ rest. (name.0, kind, rest)) (behind_sign (codes "=") name.1)) r e in
    let name = p.0 in
    let m = map_some (λ (rest : List Lexeme). (name.0, kind, rest)) (behind_sign (codes "=") name.1) r p.2 in
    let n = first_name ts name p.1 in
    let s = behind_sign_some (codes "=") name.1 m.0 m.1 in
    subst (TakesTarget (first ∷ ts)) m.2 (record {
      phrase = first ∷ word name.0 ∷ [];
      parts = ap (λ (w : List Lexeme). first ∷ w) (n.0 ∙ ap (λ (w : List Lexeme). word name.0 ∷ w) s);
      spelled = rule name.0;
      free = n.1;
    })

reduced_target_some : (ts : List Lexeme) (r : List ℕ × WriteKind × List Lexeme) → reduced_target_at ts ≡ Some r → TakesTarget (word (codes "reduces") ∷ ts) r
reduced_target_some ts r e =
    let p = bind_some (first_as name_of_token ts) (λ (name : List ℕ × List Lexeme). first_as centring_of name.1 >>= λ at. option_map (λ rest. (name.0, write.Reduces at.0, rest)) (behind_sign (codes "=") at.1)) r e in
    let name = p.0 in
    let q = bind_some (first_as centring_of name.1) (λ (at : Centring × List Lexeme). option_map (λ rest. (name.0, write.Reduces at.0, rest)) (behind_sign (codes "=") at.1)) r p.2 in
    let at = q.0 in
    let m = map_some (λ (rest : List Lexeme). (name.0, write.Reduces at.0, rest)) (behind_sign (codes "=") at.1) r q.2 in
    let n = first_name ts name p.1 in
    let c = first_as_some centring_of name.1 at.0 at.1 q.1 in
    let s = behind_sign_some (codes "=") at.1 m.0 m.1 in
    subst (TakesTarget (word (codes "reduces") ∷ ts)) m.2 (record {
      phrase = word (codes "reduces") ∷ word name.0 ∷ c.0 ∷ [];
      parts = ap (λ (w : List Lexeme). word (codes "reduces") ∷ w) (n.0 ∙ ap (λ (w : List Lexeme). word name.0 ∷ w) (c.1 ∙ ap (λ (w : List Lexeme). c.0 ∷ w) s));
      spelled = reduces name.0 c.0 at.0 c.2;
      free = n.1;
    })

written_so : (t : Lexeme) (kind : WriteKind) → write_of t ≡ Some kind → (name : List ℕ) → SpellsTarget (t ∷ word name ∷ []) name kind
written_so t kind is = meaning_case Word (λ (l : Lexeme) (k : WriteKind). (name : List ℕ) → SpellsTarget (l ∷ word name ∷ []) name k) write_words t kind is (computes, (modifies, tt))

pub target_some : (ts : List Lexeme) (r : List ℕ × WriteKind × List Lexeme) → target_at ts ≡ Some r → TakesTarget ts r
unfolding target_at
target_some ts r e =
    elim (branch_some (λ (kind : WriteKind × List Lexeme). named_target_at kind.0 kind.1) (first_as write_of ts) (behind (is_word (codes "reduces")) ts >>= λ rest. reduced_target_at rest) r e) [
      | inl b ↦
          let t = first_as_some write_of ts b.0.0 b.0.1 b.1 in
          subst (λ (w : List Lexeme). TakesTarget w r) (sym t.1) (named_target_some t.0 b.0.0 (written_so t.0 b.0.0 t.2) b.0.1 r b.2)
      | inr b ↦
          let p = bind_some (behind (is_word (codes "reduces")) ts) (λ (rest : List Lexeme). reduced_target_at rest) r b.1 in
          subst (λ (w : List Lexeme). TakesTarget w r) (sym (behind_word_some (codes "reduces") ts p.0 p.1)) (reduced_target_some p.0 r p.2)
    ]
