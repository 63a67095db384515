-- Expressions in their printed form, as tokens that spell them.
use Rattle.std.proofs.Common.{◌≡◌, ℕ, zero, suc, ◌+◌, ◌<◌, ◌≤◌, ◌^◌, nat_lt, ℤ, pos, negsuc, Bool, true, not, ◌&&◌, ◌||◌, List, [], ◌∷◌, ◌++◌, length, take, Some, codes, decimal, refl, sym, ◌∙◌, subst, append_assoc, arith}
use Rattle.std.specs.Prelude.{int_le, int_lt}
use Rattle.std.proofs.lemmas.Bool.{and_parts}
use Rattle.std.proofs.lemmas.Bool.Decides.{nat_tests}
use Rattle.uts_lex.specs.Lexemes.{Lexeme}
use Rattle.uts_lex.specs.Names.{number_of, with_name}
use Rattle.uts_lex.specs.Spelling.{IsWord, IsSign}
use Rattle.kernel_ast.specs.Folds.{fold-at_form}
use Rattle.kernel_ast.specs.Size.{depth_of, depth_of-Neg, depth_of-Binary, depth_of-Select, depth_of_positive}
use Rattle.kernel_ast.specs.Form.{are_leaves_in_form, is_fine, is_zero, is_read_in_form, are_leaves_in_form-Literal, are_leaves_in_form-Read, are_leaves_in_form-Neg, are_leaves_in_form-Binary, are_leaves_in_form-Select}
use Rattle.kernel_ast.specs.declared.expression.Store.{Store}
use Rattle.kernel_ast.specs.declared.expression.Store.TheVariants as store
use Rattle.kernel_ast.specs.declared.expression.How.{How}
use Rattle.kernel_ast.specs.declared.expression.How.TheVariants as how
use Rattle.kernel_ast.specs.declared.expression.Read.{Read}
use Rattle.kernel_ast.specs.declared.expression.Op.{Op}
use Rattle.kernel_ast.specs.declared.expression.Op.TheVariants as op
use Rattle.kernel_ast.specs.declared.expression.Expr.{Expr}
use Rattle.kernel_ast.specs.declared.expression.Expr.TheOpen.{Expr-F, Literal, X, Y, Z, Level, Material, Step, Read as Reading, Number, Neg, Binary, Select}
use Rattle.kernel_ast.specs.declared.expression.Expr.TheVariants as expr
use Rattle.kernel_ast.specs.declared.expression.Expr.TheViews.{roll-Expr, out-Expr, roll-out-Expr}
use Rattle.kernel_ast.specs.declared.expression.Expr.TheFolds.{map-Expr}
use Rattle.kernel_parse.specs.Signs.{word, number, sign, comparison_of, term_op_of, factor_op_of, call_of, place_of, store_of, fine_of}
use Rattle.kernel_parse.specs.Grammar.{Words, SpellsRead, own, coarse, fine, reduction, whole, sum, product, unary, Spells, one_sum, compared, one_product, added, one_unary, multiplied, one_primary, negated, literal, place, read, grouped, called, selected}
use Rattle.problem_printable.specs.Numbering.{names_over, expression_names, names_at_form, known_behind}
use Rattle.problem_printable.specs.Printable.{is_offset, expression_fits, fits_at_form, AreNames}
use Rattle.problem_print.specs.Printed.{name_text, store_text, read_text, infix_text, call_text, operation_text, text_over, expression_text}
use Rattle.problem_print.proofs.Phrases.{TokensAreReadAgain, Reads, reads_nothing, reads_space, reads_both, reads_token, reads_sign, reads_one}
use Rattle.problem_print.proofs.Counting.{between}
use Rattle.problem_printable.specs.Known.{known_grows}
use Rattle.problem_print.proofs.Said.{Said, said_nameless, said_named, name_said}
use Rattle.problem_print.proofs.Numerals.{said_offset, zero_offset, reads_number}

-- ---- folds at a form

pub text_at : (names : Words) {x : Expr} (d : Expr-F Expr) → roll-Expr d ≡ x → expression_text names x ≡ text_over names (map-Expr Expr (List ℕ) (expression_text names) d)
unfolding expression_text
text_at names d made = fold-at_form (text_over names) d made

-- ---- what can be said, and what is said

-- the expression can be said within so much room, where so many names are known before it and behind it
pub record CanSay (names : Words) (room k j : ℕ) (e : Expr) : Type 0 where
  pub shallow : depth_of e ≤ room + 1
  pub leaves : are_leaves_in_form (length names) e ≡ true
  pub fits : expression_fits e ≡ true
  pub known : known_behind k (expression_names e) ≡ Some j
  pub within : j ≤ length names

-- the expression in its printed form, or in this text
abbrev pub SaidBy : Words → (room k j : ℕ) → List ℕ → Expr → Type 0
SaidBy names room k j text e = Said (Spells unary room) names k j text e

abbrev pub SaidIn : Words → (room k j : ℕ) → Expr → Type 0
SaidIn names room k j e = SaidBy names room k j (expression_text names e) e

-- each expression of fewer levels is said
abbrev Below : Words → ℕ → Type 0
Below names n = (e : Expr) (room k j : ℕ) → depth_of e < n → CanSay names room k j e → SaidIn names room k j e

-- ---- words

pub store_lexeme : (s : Store) → IsWord (store_text s)
store_lexeme store.Old = (refl, refl, omega arith)
store_lexeme store.New = (refl, refl, omega arith)

pub store_token : (s : Store) → store_of (word (store_text s)) ≡ Some s
store_token store.Old = refl
store_token store.New = refl

-- ---- leaves

module _ (law : TokensAreReadAgain) (names : Words) (are : AreNames names) where
  -- what has no parts, by its text and its names
  said_leaf : (room k j : ℕ) (e : Expr) (text : List ℕ) (ts : List Lexeme) → expression_text names e ≡ text → expression_names e ≡ [] → Reads text ts
      → Spells unary room ts (take k names) e (take k names) → CanSay names room k j e → SaidIn names room k j e
  said_leaf room k j e text ts is none reads spelled can =
      subst (λ (t : List ℕ). SaidBy names room k j t e) (sym is)
      (said_nameless (Spells unary room) names k j text e ts (subst (λ (ns : List ℕ). known_behind k ns ≡ Some j) none can.known) reads spelled)

  said_place : (room k j : ℕ) (e : Expr) (at : List ℕ) → place_of (word at) ≡ Some e → IsWord at → expression_text names e ≡ at → expression_names e ≡ []
      → CanSay names room k j e → SaidIn names room k j e
  said_place room k j e at is lexeme text none =
      said_leaf room k j e at (word at ∷ []) text none (reads_one law (word at) lexeme)
      (one_primary room (word at ∷ []) (take k names) (take k names) e (place room (take k names) (word at) e is))

  said_natural : (room k j n : ℕ) → CanSay names room k j (expr.Literal (pos n)) → SaidIn names room k j (expr.Literal (pos n))
  said_natural room k j n can =
      let test : int_lt (pos n) (pos (2 ^ 63)) ≡ true = sym (fits_at_form (Literal (pos n)) (expr.rolls-Literal (pos n))) ∙ can.fits in
      let small : n < 2 ^ 63 = grind (arith, nat_tests, test) in
      said_leaf room k j (expr.Literal (pos n)) (decimal n) (number n ∷ []) (text_at names (Literal (pos n)) (expr.rolls-Literal (pos n)))
      (names_at_form (Literal (pos n)) (expr.rolls-Literal (pos n))) (reads_number law n (omega arith))
      (one_primary room (number n ∷ []) (take k names) (take k names) (expr.Literal (pos n)) (literal room (take k names) n small)) can

  not_negative : (n : ℕ) → int_le (pos 0) (negsuc n) ≡ true → ⊥
  not_negative n e = grind (arith, nat_tests, e)

  said_literal : (room k j : ℕ) (n : ℤ) → CanSay names room k j (expr.Literal n) → SaidIn names room k j (expr.Literal n)
  said_literal room k j (pos n) can = said_natural room k j n can
  said_literal room k j (negsuc n) can = absurd (not_negative n (sym (are_leaves_in_form-Literal (length names) (negsuc n)) ∙ can.leaves))

  -- ---- reads

  abbrev looks : Store → How → ℕ → List ℤ → Read
  looks s h name by = record { store = s; how = h; name = name; offset = by }

  -- what can be said of a read of the next or a known name
  record CanRead (k j : ℕ) (r : Read) : Type 0 where
    known : known_behind k (r.name ∷ []) ≡ Some j
    within : j ≤ length names
    fits : is_offset r.offset ≡ true
    form : is_read_in_form (length names) r ≡ true

  abbrev SaidRead : ℕ → ℕ → Read → Type 0
  SaidRead k j r = Said SpellsRead names k j (read_text names r) (expr.Read r)

  can_read : (room k j : ℕ) (r : Read) → CanSay names room k j (expr.Read r) → CanRead k j r
  can_read room k j r can = record {
    known = subst (λ (ns : List ℕ). known_behind k ns ≡ Some j) (names_at_form (Reading r) (expr.rolls-Read r)) can.known;
    within = can.within;
    fits = sym (fits_at_form (Reading r) (expr.rolls-Read r)) ∙ can.fits;
    form = sym (are_leaves_in_form-Read (length names) r) ∙ can.leaves;
  }

  said_own : (k j : ℕ) (s : Store) (name : ℕ) (by : List ℤ) → CanRead k j (looks s how.Same name by) → SaidRead k j (looks s how.Same name by)
  said_own k j s name by can =
      let w = name_text names name in
      let is = name_said names are k j name can.known can.within in
      let o = said_offset law by can.fits in
      said_named SpellsRead names are k j name (read_text names (looks s how.Same name by)) (λ m. expr.Read (looks s how.Same m by))
      (word (store_text s) ∷ sign (codes ".") ∷ word w ∷ o.tokens) can.known can.within
      (reads_token law (word (store_text s)) (store_lexeme s) refl (reads_sign law 46 refl refl (reads_token law (word w) is.0 refl o.reads)))
      (own (take k names) (word (store_text s)) s w o.tokens by (store_token s) is.1 o.spelled)

  said_coarse : (k j : ℕ) (s : Store) (name : ℕ) (by : List ℤ) → CanRead k j (looks s how.Coarse name by) → SaidRead k j (looks s how.Coarse name by)
  said_coarse k j s name by can =
      let w = name_text names name in
      let is = name_said names are k j name can.known can.within in
      let o = said_offset law by can.fits in
      said_named SpellsRead names are k j name (read_text names (looks s how.Coarse name by)) (λ m. expr.Read (looks s how.Coarse m by))
      (word (store_text s) ∷ sign (codes ".") ∷ word (codes "coarse") ∷ sign (codes ".") ∷ word w ∷ o.tokens) can.known can.within
      (reads_token law (word (store_text s)) (store_lexeme s) refl (reads_sign law 46 refl refl
      (reads_token law (word (codes "coarse")) (refl, refl, omega arith) refl (reads_sign law 46 refl refl (reads_token law (word w) is.0 refl o.reads)))))
      (coarse (take k names) (word (store_text s)) s w o.tokens by (store_token s) is.1 o.spelled)

  said_fine : (k j : ℕ) (s : Store) (h : How) (at : List ℕ) (name : ℕ) (by : List ℤ) → is_fine h ≡ true → fine_of (word at) ≡ Some h → IsWord at
      → read_text names (looks s h name by) ≡ store_text s ++ (46 ∷ (at ++ (46 ∷ name_text names name)))
      → CanRead k j (looks s h name by) → SaidRead k j (looks s h name by)
  said_fine k j s h at name by fine_how is_at lexeme text can =
      let w = name_text names name in
      let is = name_said names are k j name can.known can.within in
      let ts : List Lexeme = word (store_text s) ∷ sign (codes ".") ∷ word at ∷ sign (codes ".") ∷ word w ∷ [] in
      let offset = (and_parts (nat_lt name (length names)) (not (is_fine h) || is_zero by) can.form).1 in
      let zero = zero_offset by can.fits (subst (λ (b : Bool). (not b || is_zero by) ≡ true) fine_how offset) in
      said_named SpellsRead names are k j name (read_text names (looks s h name by)) (λ m. expr.Read (looks s h m by)) ts can.known can.within
      (subst (λ (t : List ℕ). Reads t ts) (sym text)
      (reads_token law (word (store_text s)) (store_lexeme s) refl (reads_sign law 46 refl refl
      (reads_token law (word at) lexeme refl (reads_sign law 46 refl refl (reads_one law (word w) is.0))))))
      (subst (λ (o : List ℤ). SpellsRead ts (take k names) (expr.Read (looks s h (number_of (take k names) w) o)) (with_name (take k names) w)) (sym zero)
      (fine (take k names) (word (store_text s)) (word at) s h w (store_token s) is_at is.1))

  said_by_how : (k j : ℕ) (s : Store) (h : How) (name : ℕ) (by : List ℤ) → CanRead k j (looks s h name by) → SaidRead k j (looks s h name by)
  said_by_how k j s how.Same name by = said_own k j s name by
  said_by_how k j s how.Coarse name by = said_coarse k j s name by
  said_by_how k j s how.FineSum name by = said_fine k j s how.FineSum (codes "fine_sum") name by refl refl (refl, refl, omega arith) refl
  said_by_how k j s how.FineMin name by = said_fine k j s how.FineMin (codes "fine_min") name by refl refl (refl, refl, omega arith) refl
  said_by_how k j s how.FineMax name by = said_fine k j s how.FineMax (codes "fine_max") name by refl refl (refl, refl, omega arith) refl
  said_by_how k j s how.FineCount name by = said_fine k j s how.FineCount (codes "fine_count") name by refl refl (refl, refl, omega arith) refl

  -- what is spelled as a read is an expression
  said_as_read : (room k j : ℕ) (e : Expr) (text : List ℕ) → expression_text names e ≡ text → Said SpellsRead names k j text e → SaidIn names room k j e
  said_as_read room k j e text is s =
      subst (λ (t : List ℕ). SaidBy names room k j t e) (sym is) (record {
        tokens = s.tokens;
        reads = s.reads;
        spelled = one_primary room s.tokens (take k names) (take j names) e (read room s.tokens (take k names) (take j names) e s.spelled);
      })

  said_read : (room k j : ℕ) (r : Read) → CanSay names room k j (expr.Read r) → SaidIn names room k j (expr.Read r)
  said_read room k j r can =
      said_as_read room k j (expr.Read r) (read_text names r) (text_at names (Reading r) (expr.rolls-Read r))
      (said_by_how k j r.store r.how r.name r.offset (can_read room k j r can))

  said_reduction : (room k j : ℕ) (s : Store) (name : ℕ) → CanSay names room k j (expr.Number s name) → SaidIn names room k j (expr.Number s name)
  said_reduction room k j s name can =
      let known = subst (λ (ns : List ℕ). known_behind k ns ≡ Some j) (names_at_form (Number s name) (expr.rolls-Number s name)) can.known in
      let w = name_text names name in
      let is = name_said names are k j name known can.within in
      let text = store_text s ++ (codes "." ++ w) in
      said_as_read room k j (expr.Number s name) text (text_at names (Number s name) (expr.rolls-Number s name))
      (said_named SpellsRead names are k j name text (λ m. expr.Number s m) (word (store_text s) ∷ sign (codes ".") ∷ word w ∷ []) known can.within
      (reads_token law (word (store_text s)) (store_lexeme s) refl (reads_sign law 46 refl refl (reads_one law (word w) is.0)))
      (reduction (take k names) (word (store_text s)) s w (store_token s) is.1))

  -- ---- expressions with parts

  said_negation : (n : ℕ) → Below names n → (room k j : ℕ) (a : Expr) → depth_of (expr.Neg a) < suc n → CanSay names room k j (expr.Neg a) → SaidIn names room k j (expr.Neg a)
  said_negation n below room k j a less can =
      let deep = depth_of-Neg a in
      let s = below a room k j (omega (arith, deep, less)) (record {
        shallow = omega (arith, deep, can.shallow);
        leaves = sym (are_leaves_in_form-Neg (length names) a) ∙ can.leaves;
        fits = sym (fits_at_form (Neg a) (expr.rolls-Neg a)) ∙ can.fits;
        known = subst (λ (ns : List ℕ). known_behind k ns ≡ Some j) (names_at_form (Neg a) (expr.rolls-Neg a)) can.known;
        within = can.within;
      }) in
      record {
        tokens = sign (codes "-") ∷ s.tokens;
        reads = subst (λ (t : List ℕ). Reads t (sign (codes "-") ∷ s.tokens)) (sym (text_at names (Neg a) (expr.rolls-Neg a))) (reads_sign law 45 refl refl s.reads);
        spelled = negated room s.tokens (take k names) (take j names) a s.spelled;
      }

  -- an expression on its own, as a product, as a sum, or whole
  a_product : {room k j : ℕ} {e : Expr} (s : SaidIn names room k j e) → Spells product room s.tokens (take k names) e (take j names)
  a_product {room} {k} {j} {e} s = one_unary room s.tokens (take k names) (take j names) e s.spelled

  a_sum : {room k j : ℕ} {e : Expr} (s : SaidIn names room k j e) → Spells sum room s.tokens (take k names) e (take j names)
  a_sum {room} {k} {j} {e} s = one_product room s.tokens (take k names) (take j names) e (a_product s)

  a_whole : {room k j : ℕ} {e : Expr} (s : SaidIn names room k j e) → Spells whole room s.tokens (take k names) e (take j names)
  a_whole {room} {k} {j} {e} s = one_sum room s.tokens (take k names) (take j names) e (a_sum s)

  module _ (r k m j : ℕ) (a b : Expr) (first : SaidIn names r k m a) (second : SaidIn names r m j b) where
    -- between parentheses
    infix_said : (s : List ℕ) (o : Op) → IsSign s → Spells whole r (first.tokens ++ sign s ∷ second.tokens) (take k names) (expr.Binary o a b) (take j names)
        → SaidBy names (suc r) k j (infix_text s (expression_text names a) (expression_text names b)) (expr.Binary o a b)
    infix_said s o is spelled =
        let close : List Lexeme = sign (codes ")") ∷ [] in
        let ts : List Lexeme = sign (codes "(") ∷ (first.tokens ++ sign s ∷ second.tokens) ++ close in
        let same : sign (codes "(") ∷ (first.tokens ++ (sign s ∷ (second.tokens ++ close))) ≡ ts = simp append_assoc in
        record {
          tokens = ts;
          reads = subst (Reads (infix_text s (expression_text names a) (expression_text names b))) same
              (reads_sign law 40 refl refl (reads_both first.reads refl (reads_space (reads_token law (sign s) is refl
              (reads_space (reads_both second.reads refl (reads_sign law 41 refl refl reads_nothing)))))));
          spelled = one_primary (suc r) ts (take k names) (take j names) (expr.Binary o a b)
              (grouped r (first.tokens ++ sign s ∷ second.tokens) (take k names) (take j names) (expr.Binary o a b) spelled);
        }

    compared_said : (s : List ℕ) (o : Op) → IsSign s → comparison_of (sign s) ≡ Some o
        → SaidBy names (suc r) k j (infix_text s (expression_text names a) (expression_text names b)) (expr.Binary o a b)
    compared_said s o is meaning = infix_said s o is
        (compared r first.tokens second.tokens (take k names) (take m names) (take j names) a b (sign s) o (a_sum first) meaning (a_sum second))

    added_said : (s : List ℕ) (o : Op) → IsSign s → term_op_of (sign s) ≡ Some o
        → SaidBy names (suc r) k j (infix_text s (expression_text names a) (expression_text names b)) (expr.Binary o a b)
    added_said s o is meaning =
        let ts : List Lexeme = first.tokens ++ sign s ∷ second.tokens in
        infix_said s o is (one_sum r ts (take k names) (take j names) (expr.Binary o a b)
        (added r first.tokens second.tokens (take k names) (take m names) (take j names) a b (sign s) o (a_sum first) meaning (a_product second)))

    multiplied_said : (s : List ℕ) (o : Op) → IsSign s → factor_op_of (sign s) ≡ Some o
        → SaidBy names (suc r) k j (infix_text s (expression_text names a) (expression_text names b)) (expr.Binary o a b)
    multiplied_said s o is meaning =
        let ts : List Lexeme = first.tokens ++ sign s ∷ second.tokens in
        infix_said s o is (one_sum r ts (take k names) (take j names) (expr.Binary o a b) (one_product r ts (take k names) (take j names) (expr.Binary o a b)
        (multiplied r first.tokens second.tokens (take k names) (take m names) (take j names) a b (sign s) o (a_product first) meaning second.spelled)))

    call_said : (w : List ℕ) (o : Op) → IsWord w → call_of (word w) ≡ Some o
        → SaidBy names (suc r) k j (call_text w (expression_text names a) (expression_text names b)) (expr.Binary o a b)
    call_said w o is meaning =
        let close : List Lexeme = sign (codes ")") ∷ [] in
        let ts : List Lexeme = word w ∷ sign (codes "(") ∷ first.tokens ++ sign (codes ",") ∷ second.tokens ++ close in
        let same : word w ∷ sign (codes "(") ∷ (first.tokens ++ (sign (codes ",") ∷ (second.tokens ++ close))) ≡ ts = simp append_assoc in
        record {
          tokens = ts;
          reads = subst (Reads (call_text w (expression_text names a) (expression_text names b))) same
              (reads_token law (word w) is refl (reads_sign law 40 refl refl (reads_both first.reads refl (reads_sign law 44 refl refl
              (reads_space (reads_both second.reads refl (reads_sign law 41 refl refl reads_nothing)))))));
          spelled = one_primary (suc r) ts (take k names) (take j names) (expr.Binary o a b)
              (called r first.tokens second.tokens (take k names) (take m names) (take j names) a b (word w) o meaning (a_whole first) (a_whole second));
        }

    operation_said : (o : Op) → SaidBy names (suc r) k j (operation_text o (expression_text names a) (expression_text names b)) (expr.Binary o a b)
    operation_said op.Add = added_said (codes "+") op.Add refl refl
    operation_said op.Sub = added_said (codes "-") op.Sub refl refl
    operation_said op.Mul = multiplied_said (codes "*") op.Mul refl refl
    operation_said op.Div = multiplied_said (codes "/") op.Div refl refl
    operation_said op.Rem = multiplied_said (codes "%") op.Rem refl refl
    operation_said op.Lt = compared_said (codes "<") op.Lt refl refl
    operation_said op.Le = compared_said (codes "<=") op.Le (refl, refl) refl
    operation_said op.Gt = compared_said (codes ">") op.Gt refl refl
    operation_said op.Ge = compared_said (codes ">=") op.Ge (refl, refl) refl
    operation_said op.Eq = compared_said (codes "==") op.Eq (refl, refl) refl
    operation_said op.Ne = compared_said (codes "!=") op.Ne (refl, refl) refl
    operation_said op.Min = call_said (codes "min") op.Min (refl, refl, omega arith) refl
    operation_said op.Max = call_said (codes "max") op.Max (refl, refl, omega arith) refl

  said_operation : (n : ℕ) → Below names n → (room k j : ℕ) (o : Op) (a b : Expr) → depth_of (expr.Binary o a b) < suc n
      → CanSay names room k j (expr.Binary o a b) → SaidIn names room k j (expr.Binary o a b)
  said_operation n below zero k j o a b less can = absurd (omega (arith, depth_of-Binary o a b, can.shallow, depth_of_positive a))
  said_operation n below (suc r) k j o a b less can =
      let deep = depth_of-Binary o a b in
      let e = expr.Binary o a b in
      let parts = between k j (expression_names a) (expression_names b)
      (subst (λ (ns : List ℕ). known_behind k ns ≡ Some j) (names_at_form (Binary o a b) (expr.rolls-Binary o a b)) can.known) in
      let rises = known_grows parts.middle (expression_names b) j parts.second in
      let leaves = and_parts (are_leaves_in_form (length names) a) (are_leaves_in_form (length names) b) (sym (are_leaves_in_form-Binary (length names) o a b) ∙ can.leaves) in
      let fits = and_parts (expression_fits a) (expression_fits b) (sym (fits_at_form (Binary o a b) (expr.rolls-Binary o a b)) ∙ can.fits) in
      let first = below a r k parts.middle (omega (arith, deep, less)) (record {
        shallow = omega (arith, deep, can.shallow);
        leaves = leaves.0;
        fits = fits.0;
        known = parts.first;
        within = omega (arith, rises, can.within);
      }) in
      let second = below b r parts.middle j (omega (arith, deep, less)) (record {
        shallow = omega (arith, deep, can.shallow);
        leaves = leaves.1;
        fits = fits.1;
        known = parts.second;
        within = can.within;
      }) in
      subst (λ (t : List ℕ). SaidBy names (suc r) k j t e) (sym (text_at names (Binary o a b) (expr.rolls-Binary o a b)))
      (operation_said r k parts.middle j a b first second o)

  -- ---- selections

  module _ (r k l m j : ℕ) (c a b : Expr) (test : SaidIn names r k l c) (first : SaidIn names r l m a) (second : SaidIn names r m j b) where
    selection_said : SaidBy names (suc r) k j (text_over names (Select (expression_text names c) (expression_text names a) (expression_text names b))) (expr.Select c a b)
    selection_said =
        let close : List Lexeme = sign (codes ")") ∷ [] in
        let comma = sign (codes ",") in
        let ts : List Lexeme = word (codes "select") ∷ sign (codes "(") ∷ test.tokens ++ comma ∷ first.tokens ++ comma ∷ second.tokens ++ close in
        let same : word (codes "select") ∷ sign (codes "(") ∷ (test.tokens ++ (comma ∷ (first.tokens ++ (comma ∷ (second.tokens ++ close))))) ≡ ts = simp append_assoc in
        record {
          tokens = ts;
          reads = subst (Reads (text_over names (Select (expression_text names c) (expression_text names a) (expression_text names b)))) same
              (reads_token law (word (codes "select")) (refl, refl, omega arith) refl (reads_sign law 40 refl refl
              (reads_both test.reads refl (reads_sign law 44 refl refl (reads_space
              (reads_both first.reads refl (reads_sign law 44 refl refl (reads_space
              (reads_both second.reads refl (reads_sign law 41 refl refl reads_nothing))))))))));
          spelled = one_primary (suc r) ts (take k names) (take j names) (expr.Select c a b)
              (selected r test.tokens first.tokens second.tokens (take k names) (take l names) (take m names) (take j names) c a b (a_whole test) (a_whole first) (a_whole second));
        }

  said_selection : (n : ℕ) → Below names n → (room k j : ℕ) (c a b : Expr) → depth_of (expr.Select c a b) < suc n
      → CanSay names room k j (expr.Select c a b) → SaidIn names room k j (expr.Select c a b)
  said_selection n below zero k j c a b less can = absurd (omega (arith, depth_of-Select c a b, can.shallow, depth_of_positive a))
  said_selection n below (suc r) k j c a b less can =
      let deep = depth_of-Select c a b in
      let e = expr.Select c a b in
      let parts = between k j (expression_names c) (expression_names a ++ expression_names b)
      (subst (λ (ns : List ℕ). known_behind k ns ≡ Some j) (names_at_form (Select c a b) (expr.rolls-Select c a b)) can.known) in
      let more = between parts.middle j (expression_names a) (expression_names b) parts.second in
      let rises = known_grows more.middle (expression_names b) j more.second in
      let rises' = known_grows parts.middle (expression_names a) more.middle more.first in
      let leaf = are_leaves_in_form (length names) in
      let leaves = and_parts (leaf c && leaf a) (leaf b) (sym (are_leaves_in_form-Select (length names) c a b) ∙ can.leaves) in
      let leaves' = and_parts (leaf c) (leaf a) leaves.0 in
      let fits = and_parts (expression_fits c) (expression_fits a && expression_fits b) (sym (fits_at_form (Select c a b) (expr.rolls-Select c a b)) ∙ can.fits) in
      let fits' = and_parts (expression_fits a) (expression_fits b) fits.1 in
      let test = below c r k parts.middle (omega (arith, deep, less)) (record {
        shallow = omega (arith, deep, can.shallow);
        leaves = leaves'.0;
        fits = fits.0;
        known = parts.first;
        within = omega (arith, rises, rises', can.within);
      }) in
      let first = below a r parts.middle more.middle (omega (arith, deep, less)) (record {
        shallow = omega (arith, deep, can.shallow);
        leaves = leaves'.1;
        fits = fits'.0;
        known = more.first;
        within = omega (arith, rises, can.within);
      }) in
      let second = below b r more.middle j (omega (arith, deep, less)) (record {
        shallow = omega (arith, deep, can.shallow);
        leaves = leaves.1;
        fits = fits'.1;
        known = more.second;
        within = can.within;
      }) in
      subst (λ (t : List ℕ). SaidBy names (suc r) k j t e) (sym (text_at names (Select c a b) (expr.rolls-Select c a b)))
      (selection_said r k parts.middle more.middle j c a b test first second)

  -- ---- every expression

  -- an expression by its form, at the expression that the form makes
  by_form : (n room k j : ℕ) {x y : Expr} → y ≡ x → (depth_of y < suc n → CanSay names room k j y → SaidIn names room k j y)
      → depth_of x < suc n → CanSay names room k j x → SaidIn names room k j x
  by_form n room k j is said = subst (λ (e : Expr). depth_of e < suc n → CanSay names room k j e → SaidIn names room k j e) is said

  place_by_form : (n room k j : ℕ) (d : Expr-F Expr) (y x : Expr) (at : List ℕ) → roll-Expr d ≡ y → roll-Expr d ≡ x → place_of (word at) ≡ Some y → IsWord at
      → text_over names (map-Expr Expr (List ℕ) (expression_text names) d) ≡ at → names_over (map-Expr Expr (List ℕ) expression_names d) ≡ []
      → depth_of x < suc n → CanSay names room k j x → SaidIn names room k j x
  place_by_form n room k j d y x at rolls made is lexeme text none =
      by_form n room k j (sym rolls ∙ made) (λ less. said_place room k j y at is lexeme (text_at names d rolls ∙ text) (names_at_form d rolls ∙ none))

  said_form : (n : ℕ) → Below names n → (room k j : ℕ) (d : Expr-F Expr) (x : Expr) → roll-Expr d ≡ x → depth_of x < suc n → CanSay names room k j x → SaidIn names room k j x
  said_form n below room k j (Literal m) x made = by_form n room k j (sym (expr.rolls-Literal m) ∙ made) (λ less. said_literal room k j m)
  said_form n below room k j X x made = place_by_form n room k j X expr.X x (codes "x") expr.rolls-X made refl (refl, refl, omega arith) refl refl
  said_form n below room k j Y x made = place_by_form n room k j Y expr.Y x (codes "y") expr.rolls-Y made refl (refl, refl, omega arith) refl refl
  said_form n below room k j Z x made = place_by_form n room k j Z expr.Z x (codes "z") expr.rolls-Z made refl (refl, refl, omega arith) refl refl
  said_form n below room k j Level x made = place_by_form n room k j Level expr.Level x (codes "level") expr.rolls-Level made refl (refl, refl, omega arith) refl refl
  said_form n below room k j Material x made = place_by_form n room k j Material expr.Material x (codes "material") expr.rolls-Material made refl (refl, refl, omega arith) refl refl
  said_form n below room k j Step x made = place_by_form n room k j Step expr.Step x (codes "step") expr.rolls-Step made refl (refl, refl, omega arith) refl refl
  said_form n below room k j (Reading r) x made = by_form n room k j (sym (expr.rolls-Read r) ∙ made) (λ less. said_read room k j r)
  said_form n below room k j (Number s name) x made = by_form n room k j (sym (expr.rolls-Number s name) ∙ made) (λ less. said_reduction room k j s name)
  said_form n below room k j (Neg a) x made = by_form n room k j (sym (expr.rolls-Neg a) ∙ made) (said_negation n below room k j a)
  said_form n below room k j (Binary o a b) x made = by_form n room k j (sym (expr.rolls-Binary o a b) ∙ made) (said_operation n below room k j o a b)
  said_form n below room k j (Select c a b) x made = by_form n room k j (sym (expr.rolls-Select c a b) ∙ made) (said_selection n below room k j c a b)

  said_below : (n : ℕ) → Below names n
  said_below zero e room k j less can = absurd (omega arith)
  said_below (suc n) e room k j less can = said_form n (said_below n) room k j (out-Expr e) e (roll-out-Expr e) less can

  -- an expression that can be said is said in its printed form
  pub said : (room k j : ℕ) (e : Expr) → CanSay names room k j e → SaidIn names room k j e
  said room k j e can = said_below (suc (depth_of e)) e room k j (omega arith) can

  pub said_whole : (room k j : ℕ) (e : Expr) (s : SaidIn names room k j e) → Spells whole room s.tokens (take k names) e (take j names)
  said_whole room k j e s = a_whole s
