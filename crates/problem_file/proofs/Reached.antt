-- How reading goes on from line to line.
use Rattle.std.proofs.Common.{◌≡◌, ℕ, zero, suc, ◌+◌, ◌-◌, ◌≤◌, ◌<◌, ◌^◌, Bool, true, false, List, [], ◌∷◌, ◌++◌, length, take, drop, Option, Some, None, refl, sym, ap, ◌∙◌, subst, add-one, arith}
use Rattle.std.specs.Prelude.{◌==◌, not, if◌then◌else◌, slice_get}
use Rattle.std.specs.Option.{option_map, option_and_then}
use Rattle.std.proofs.lemmas.List.{length-drop, length-take, length-map}
use Rattle.std.proofs.lemmas.Bool.Decides.{nat_tests}
use Rattle.std.proofs.lemmas.List.Sums.{prefix_len-le-length}
use Rattle.uts_lex.specs.Lexemes.{Lexeme, is_blank, begins_comment, put_before, front_lexeme, lexemes_behind, lexemes_of, HasBadByte}
use Rattle.uts_lex.specs.Lines.{line_feed, line_end, line_at, after_line}
use Rattle.uts_lex.specs.Tokens.{AppendsLine}
use Rattle.uts_lex.specs.declared.token.Token.{Token}
use Rattle.kernel_parse.specs.Grammar.{Words}
use Rattle.kernel_parse.specs.Source.{lexemes}
use Rattle.problem_types.specs.declared.problem.Problem.{Problem}
use Rattle.statement_parse.specs.Grammar.{SpellsStatement}
use Rattle.statement_parse.specs.Kinds.{kind_of}
use Rattle.statement_parse.specs.Laws.{FewNewNames}
use Rattle.statement_parse.specs.declared.statement.Statement.{Statement}
use Rattle.problem_file.specs.Statements.{Placed, at, statements_of}
use Rattle.problem_file.specs.Order.{next_place}
use Rattle.problem_file.specs.Grammar.{BeginsWith, nothing, empty_line, statement, Spells, IsBadLine, bad_byte, bad_statement, no_end}
use Rattle.problem_file.specs.Drafts.{empty_problem, with_statement, list_of, draft, drafted, drafted_all, draft_of}
use Rattle.problem_file.specs.Progress.{IsReadTo, Blames}
use Rattle.problem_file.specs.declared.fault.ParseFault.{ParseFault}
use Rattle.problem_file.specs.declared.fault.ParseFault.TheVariants.{BadText, NoMemory}
use Rattle.problem_file.specs.declared.draft.Draft.{Draft}
use Rattle.problem_file.specs.declared.order.Place.{Place}
use Rattle.problem_file.specs.declared.order.Place.TheVariants as place
use Rattle.problem_file.proofs.Readback.{read_back, place_of_draft}
use Rattle.problem_file.proofs.Tails.{problem_of}

-- ---- tokens and bytes

-- a line has no more tokens than bytes
few_behind : (bytes : List ℕ) (skipped : ℕ) (ts : List Lexeme) → lexemes_behind bytes skipped ≡ Some ts → length ts ≤ length bytes
few_behind [] skipped ts is = let e : [] ≡ ts = cc in let n : 0 ≡ length ts = ap (λ (w : List Lexeme). length w) e in omega arith
few_behind (byte ∷ bytes) (suc skipped) ts is = let h = few_behind bytes skipped ts is in omega arith
few_behind (byte ∷ bytes) zero ts is = by (is_blank byte) (begins_comment byte) (front_lexeme (byte ∷ bytes)) is (few_behind bytes)
  where
    put : (first : Lexeme) (o : Option (List Lexeme)) → put_before first o ≡ Some ts → ((us : List Lexeme) → o ≡ Some us → length us ≤ length bytes) → length ts ≤ suc (length bytes)
    put first None e more = absurd cc
    put first (Some us) e more = let is-ts : first ∷ us ≡ ts = cc in let n : suc (length us) ≡ length ts = ap (λ (w : List Lexeme). length w) is-ts in let h = more us refl in omega arith

    by : (blank comment : Bool) (o : Option Lexeme)
        → (if blank then lexemes_behind bytes 0 else (if comment then Some [] else option_and_then (λ first. put_before first (lexemes_behind bytes (length first.bytes - 1))) o)) ≡ Some ts
        → ((skipped : ℕ) (us : List Lexeme) → lexemes_behind bytes skipped ≡ Some us → length us ≤ length bytes)
        → length ts ≤ suc (length bytes)
    by true comment o e more = let h = more 0 ts e in omega arith
    by false true o e more = let none : [] ≡ ts = cc in let n : 0 ≡ length ts = ap (λ (w : List Lexeme). length w) none in omega arith
    by false false None e more = absurd cc
    by false false (Some first) e more = put first (lexemes_behind bytes (length first.bytes - 1)) e (λ us is. more (length first.bytes - 1) us is)

pub few_tokens : (line : List ℕ) (ts : List Lexeme) → lexemes_of line ≡ Some ts → length ts ≤ length line
few_tokens line ts is = few_behind line 0 ts is

-- where a line lies, and the next one
pub record LineAt (text : List ℕ) (from : ℕ) : Type 0 where
  pub further : from < after_line text from
  pub inside : after_line text from ≤ length text
  pub bytes : from + length (line_at text from) ≤ after_line text from

pub line_lies : (text : List ℕ) (from : ℕ) → from < length text → LineAt text from
line_lies text from lt =
    let end = prefix_len-le-length (λ (byte : ℕ). not (byte == line_feed)) (drop from text) in
    let rest : length (drop from text) ≡ length text - from = length-drop from text in
    let last : line_end text from ≤ length text = omega arith in
    let bytes : length (line_at text from) ≡ line_end text from - from = simp (length-take, length-drop) (omega arith) in
    record { further = omega arith; inside = omega arith; bytes = omega arith }

-- ---- from line to line

pub at_start : (text : List ℕ) → IsReadTo text 0 0 [] (draft place.Start empty_problem)
at_start text = record { statements = []; begins = nothing; drafts = refl; few_names = omega arith; few_lines = omega arith; inside = omega arith }

drafted_last : (o : Option Draft) (ss : List Placed) (s : Placed) → drafted_all o (ss ++ s ∷ []) ≡ option_and_then (λ d. drafted d s) (drafted_all o ss)
drafted_last o [] s = refl
drafted_last o (x ∷ ss) s = drafted_last (option_and_then (λ d. drafted d x) o) ss s

place_drafted : (d e : Draft) (s : Placed) → drafted d s ≡ Some e → next_place d.place (kind_of s.statement) ≡ Some e.place
place_drafted d e s is = by (next_place d.place (kind_of s.statement)) is
  where
    by : (o : Option Place) → option_map (λ behind. draft behind (with_statement (list_of d.place) s.line s.statement d.problem)) o ≡ Some e → o ≡ Some e.place
    by None is = absurd cc
    by (Some behind) is =
        let same : draft behind (with_statement (list_of d.place) s.line s.statement d.problem) ≡ e = cc in
        ap (λ (x : Draft). Some x.place) same

module _ (text : List ℕ) (from lines : ℕ) (names : Words) (d : Draft) (read : IsReadTo text from lines names d) (lt : from < length text) where
  pub behind_empty : lexemes_of (line_at text from) ≡ Some [] → IsReadTo text (after_line text from) (suc lines) names d
  behind_empty none =
      let l = line_lies text from lt in
      record {
        statements = read.statements;
        begins = empty_line from lines d.place read.statements names read.begins lt none;
        drafts = read.drafts;
        few_names = omega (arith, read.few_names, l.further);
        few_lines = omega (arith, read.few_lines, l.further);
        inside = l.inside;
      }

  pub behind_statement : FewNewNames → (ts : List Lexeme) (s : Statement) (after : Words) (e : Draft) → lexemes_of (line_at text from) ≡ Some ts → SpellsStatement ts names s after
      → drafted d (at (suc lines) s) ≡ Some e → IsReadTo text (after_line text from) (suc lines) after e
  behind_statement few ts s after e tokens spelled is =
      let l = line_lies text from lt in
      let new = few ts names after s spelled in
      let bytes = few_tokens (line_at text from) ts tokens in
      record {
        statements = read.statements ++ at (suc lines) s ∷ [];
        begins = statement from lines d.place e.place read.statements names after ts s read.begins lt tokens spelled (place_drafted d e (at (suc lines) s) is);
        drafts = drafted_last (Some (draft place.Start empty_problem)) read.statements (at (suc lines) s) ∙ ap (λ (o : Option Draft). option_and_then (λ b. drafted b (at (suc lines) s)) o) read.drafts ∙ is;
        few_names = omega (arith, read.few_names, l.bytes, new.1, bytes);
        few_lines = omega (arith, read.few_lines, l.further);
        inside = l.inside;
      }

-- ---- the end

some_is : {A : Type 0} (x y : A) → Some x ≡ Some y → x ≡ y
some_is x y e = cc

pub spelled_at_end : (text : List ℕ) (lines : ℕ) (names : Words) (d : Draft) → IsReadTo text (length text) lines names d → d.place ≡ place.End
    → Spells text (record d.problem { names = names })
spelled_at_end text lines names d read end =
    let ordered = place_of_draft read.statements d read.drafts ∙ ap (λ (p : Place). Some p) end in
    let h = problem_of names read.statements ordered in
    let drafts : Some d ≡ Some (draft place.End (record h.problem { names = [] })) =
    sym read.drafts ∙ ap (λ (w : List Placed). draft_of w) h.says ∙ read_back h.problem h.whole in
    let bare : d.problem ≡ record h.problem { names = [] } = ap (λ (x : Draft). x.problem) (some_is _ _ drafts) in
    let is : h.problem ≡ record d.problem { names = names } =
    ap (λ (w : Words). record h.problem { names = w }) h.named ∙ sym (ap (λ (x : Problem). record x { names = names }) bare) in
    let begins = subst (λ p. BeginsWith text (length text) lines p read.statements names) end read.begins in
    let said = subst (λ w. BeginsWith text (length text) lines place.End w names) h.says begins in
    let named = subst (λ w. BeginsWith text (length text) lines place.End (statements_of h.problem) w) (sym h.named) said in
    subst (Spells text) is (record { lines = lines; spelled = named; whole = h.whole })

-- ---- one line of the code

pub take_one : {A : Type 0} (xs : List A) (i : ℕ) (x : A) → slice_get xs i ≡ Some x → take (i + 1) xs ≡ take i xs ++ x ∷ []
take_one {A} xs i x is = ap (λ n. take n xs) (add-one i) ∙ by xs i is
  where
    by : (ys : List A) (i : ℕ) → slice_get ys i ≡ Some x → take (suc i) ys ≡ take i ys ++ x ∷ []
    by [] i is = absurd cc
    by (y ∷ ys) zero is = let e : y ≡ x = cc in ap (λ w. w ∷ []) e
    by (y ∷ ys) (suc i) is = ap (λ w. y ∷ w) (by ys i is)

pub blamed : (P : ℕ → Type 0) (N : Type 0) (line : ℕ) (fault : ParseFault) → Blames (λ bad. (bad ≡ line) × N) fault → (N → P line) → Blames P fault
blamed P N line (BadText bad) h gives = subst P (sym h.0) (gives h.1)
blamed P N line NoMemory h gives = tt

module _ (text : List ℕ) (start line : ℕ) (names : Words) (d : Draft) (one : 1 ≤ line) (read : IsReadTo text start (line - 1) names d) (lt : start < length text) where
  same_line : suc (line - 1) ≡ line
  same_line = omega arith

  pub bad_byte_here : HasBadByte (line_at text start) → IsBadLine text line
  bad_byte_here bad = subst (IsBadLine text) same_line (bad_byte start (line - 1) d.place read.statements names read.begins lt bad)

  module _ (old new : List Token) (empty : old ≡ []) (a : AppendsLine text start line old new) where
    tokens_here : lexemes_of (line_at text start) ≡ Some (lexemes text new)
    tokens_here =
        let is : new ≡ a.tokens = a.appended ∙ ap (λ (w : List Token). w ++ a.tokens) empty in
        a.lexemes ∙ ap (λ (w : List Token). Some (lexemes text w)) (sym is)

    pub few_here : length text < 2 ^ 31 → length names + length new < 2 ^ 31
    few_here short =
        let l = line_lies text start lt in
        let few = few_tokens (line_at text start) (lexemes text new) tokens_here in
        let n : length (lexemes text new) ≡ length new = simp length-map in
        omega (arith, read.few_names, l.bytes, l.inside, few, n)

    pub empty_here : new ≡ [] → IsReadTo text (after_line text start) line names d
    empty_here none =
        let nothing_here : lexemes_of (line_at text start) ≡ Some [] = tokens_here ∙ ap (λ (w : List Token). Some (lexemes text w)) none in
        subst (λ n. IsReadTo text (after_line text start) n names d) same_line (behind_empty text start (line - 1) names d read lt nothing_here)

    pub said_here : FewNewNames → (after : Words) (e : Draft) → ((s : Statement) × SpellsStatement (lexemes text new) names s after × (drafted d (at line s) ≡ Some e))
        → IsReadTo text (after_line text start) line after e
    said_here few after e h =
        let is : drafted d (at (suc (line - 1)) h.0) ≡ Some e = ap (λ (n : ℕ). drafted d (at n h.0)) same_line ∙ h.2 in
        subst (λ n. IsReadTo text (after_line text start) n after e) same_line
        (behind_statement text start (line - 1) names d read lt few (lexemes text new) h.0 after e tokens_here h.1 is)

    pub unsaid_here : (new ≡ [] → ⊥) → ((s : Statement) (after : Words) → SpellsStatement (lexemes text new) names s after → next_place d.place (kind_of s) ≡ None) → IsBadLine text line
    unsaid_here some none =
        subst (IsBadLine text) same_line (bad_statement start (line - 1) d.place read.statements names (lexemes text new) read.begins lt tokens_here (simp length-map (not_empty new some)) none)
      where
        not_empty : (w : List Token) → (w ≡ [] → ⊥) → 1 ≤ length w
        not_empty [] some = absurd (some refl)
        not_empty (t ∷ w) some = omega arith

pub early_end : (text : List ℕ) (lines : ℕ) (names : Words) (d : Draft) → IsReadTo text (length text) lines names d → (d.place ≡ place.End → ⊥) → IsBadLine text (lines + 1)
early_end text lines names d read not_end = rw add-one (no_end lines d.place read.statements names read.begins not_end)

pub nothing_in : (w : List Token) → (length w == 0) ≡ true → w ≡ []
nothing_in [] e = refl
nothing_in (t ∷ w) e = let n : length (t ∷ w) ≡ 0 = of_test (length (t ∷ w)) e in absurd (omega arith)
  where
    of_test : (n : ℕ) → (n == 0) ≡ true → n ≡ 0
    of_test n e = grind (arith, nat_tests)

pub something_in : (w : List Token) → (length w == 0) ≡ false → w ≡ [] → ⊥
something_in w e none = let n : length w ≡ 0 = ap (λ (v : List Token). length v) none in not_test (length w) e n
  where
    not_test : (n : ℕ) → (n == 0) ≡ false → n ≡ 0 → ⊥
    not_test n e is = grind (arith, nat_tests)
