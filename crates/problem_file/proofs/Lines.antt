-- A text begins with its lines in one way, so it spells one problem at most and has one first bad line at most.
use Rattle.std.proofs.Common.{◌≡◌, ℕ, suc, ◌≤◌, ◌<◌, Bool, true, false, List, [], ◌∷◌, ◌++◌, length, Some, None, refl, sym, ap, ◌∙◌, subst, arith}
use Rattle.std.specs.Prelude.{nat_lt}
use Rattle.std.proofs.lemmas.Bool.Decides.{nat_tests}
use Rattle.uts_lex.specs.Lexemes.{Lexeme, lexemes_of, HasBadByte}
use Rattle.uts_lex.specs.Lines.{line_at, after_line}
use Rattle.kernel_parse.specs.Grammar.{Words}
use Rattle.problem_types.specs.declared.problem.Problem.{Problem}
use Rattle.statement_parse.specs.Grammar.{SpellsStatement}
use Rattle.statement_parse.specs.Kinds.{kind_of}
use Rattle.statement_parse.specs.Laws.{OneStatement, FewNewNames}
use Rattle.statement_parse.specs.declared.statement.Statement.{Statement}
use Rattle.problem_file.specs.Statements.{Placed, at}
use Rattle.problem_file.specs.Order.{next_place}
use Rattle.problem_file.specs.Grammar.{BeginsWith, nothing, empty_line, statement, Spells, IsBadLine, bad_byte, bad_statement, no_end}
use Rattle.problem_file.specs.Drafts.{draft, draft_of}
use Rattle.problem_file.specs.declared.draft.Draft.{Draft}
use Rattle.problem_file.specs.declared.order.Place.{Place}
use Rattle.problem_file.specs.declared.order.Place.TheVariants as place
use Rattle.problem_file.proofs.Readback.{read_back}

some_is : {A : Type 0} (x y : A) → Some x ≡ Some y → x ≡ y
some_is x y e = cc

trichotomy : (a b : ℕ) → (a < b → ⊥) → (b < a → ⊥) → a ≡ b
trichotomy a b f g = grind arith

module _ (one : OneStatement) (few : FewNewNames) (text : List ℕ) where
  record Same (to other : ℕ) (at_one at_other : Place) (ss ts : List Placed) (names words : Words) : Type 0 where
    to_is : to ≡ other
    place_is : at_one ≡ at_other
    says : ss ≡ ts
    named : names ≡ words

  same_statement : (ts us : List Lexeme) (names words after behind : Words) (s t : Statement) → ts ≡ us → names ≡ words
      → SpellsStatement ts names s after → SpellsStatement us words t behind → (s ≡ t) × (after ≡ behind)
  same_statement ts us names words after behind s t tokens known spelled other =
      let moved = subst (λ w. SpellsStatement w words t behind) (sym tokens) other in
      let again = subst (λ w. SpellsStatement ts w t behind) (sym known) moved in
      one ts names after behind s t spelled again

  empty_or_not : (ts : List Lexeme) (line : List ℕ) → lexemes_of line ≡ Some [] → lexemes_of line ≡ Some ts → 1 ≤ length ts → ⊥
  empty_or_not ts line none some tokens =
      let e : [] ≡ ts = some_is [] ts (sym none ∙ some) in
      let n : 0 ≡ length ts = ap (λ (w : List Lexeme). length w) e in omega arith

  -- the same number of lines
  same : {to lines : ℕ} {before : Place} {ss : List Placed} {names : Words} {other more : ℕ} {behind : Place} {ts : List Placed} {words : Words}
      → BeginsWith text to lines before ss names → BeginsWith text other more behind ts words → lines ≡ more
      → Same to other before behind ss ts names words
  same nothing nothing e = record { to_is = refl; place_is = refl; says = refl; named = refl }
  same nothing (empty_line from lines before ss names b lt none) e = absurd (omega arith)
  same nothing (statement from lines before behind ss names after ts s b lt tokens spelled may) e = absurd (omega arith)
  same (empty_line from lines before ss names b lt none) nothing e = absurd (omega arith)
  same (statement from lines before behind ss names after ts s b lt tokens spelled may) nothing e = absurd (omega arith)
  same (empty_line from lines before ss names b lt none) (empty_line from' lines' before' ss' names' b' lt' none') e =
      let h = same b b' (omega arith) in
      record { to_is = ap (λ (n : ℕ). after_line text n) h.to_is; place_is = h.place_is; says = h.says; named = h.named }
  same (empty_line from lines before ss names b lt none) (statement from' lines' before' behind' ss' names' after' ts' s' b' lt' tokens' spelled' may') e =
      let h = same b b' (omega arith) in
      let tokens : lexemes_of (line_at text from) ≡ Some ts' = ap (λ (n : ℕ). lexemes_of (line_at text n)) h.to_is ∙ tokens' in
      absurd (empty_or_not ts' (line_at text from) none tokens (few ts' names' after' s' spelled').2)
  same (statement from lines before behind ss names after ts s b lt tokens spelled may) (empty_line from' lines' before' ss' names' b' lt' none') e =
      let h = same b b' (omega arith) in
      let none : lexemes_of (line_at text from) ≡ Some [] = ap (λ (n : ℕ). lexemes_of (line_at text n)) h.to_is ∙ none' in
      absurd (empty_or_not ts (line_at text from) none tokens (few ts names after s spelled).2)
  same (statement from lines before behind ss names after ts s b lt tokens spelled may) (statement from' lines' before' behind' ss' names' after' ts' s' b' lt' tokens' spelled' may') e =
      let h = same b b' (omega arith) in
      let tokens-are : ts ≡ ts' = some_is ts ts' (sym tokens ∙ ap (λ (n : ℕ). lexemes_of (line_at text n)) h.to_is ∙ tokens') in
      let one_statement = same_statement ts ts' names names' after after' s s' tokens-are h.named spelled spelled' in
      let s-is : s ≡ s' = one_statement.0 in
      let line-is : suc lines ≡ suc lines' = e in
      let first : next_place before (kind_of s) ≡ next_place before' (kind_of s) = ap (λ (p : Place). next_place p (kind_of s)) h.place_is in
      let second : next_place before' (kind_of s) ≡ next_place before' (kind_of s') = ap (λ (x : Statement). next_place before' (kind_of x)) s-is in
      let last : at (suc lines) s ≡ at (suc lines') s' = ap (λ (n : ℕ). at n s) line-is ∙ ap (λ (x : Statement). at (suc lines') x) s-is in
      record {
        to_is = ap (λ (n : ℕ). after_line text n) h.to_is;
        place_is = some_is behind behind' (sym may ∙ first ∙ second ∙ may');
        says = ap (λ (w : List Placed). w ++ at (suc lines) s ∷ []) h.says ∙ ap (λ (x : Placed). ss' ++ x ∷ []) last;
        named = one_statement.1;
      }

  -- what makes a line good
  data IsGood (from : ℕ) (before : Place) (names : Words) : Type 0 where
    is_empty : from < length text → lexemes_of (line_at text from) ≡ Some [] → IsGood from before names
    is_said : (ts : List Lexeme) (s : Statement) (after : Words) (behind : Place) → from < length text → lexemes_of (line_at text from) ≡ Some ts
        → SpellsStatement ts names s after → next_place before (kind_of s) ≡ Some behind → IsGood from before names

  -- the lines before one of the first lines
  record Front (n : ℕ) : Type 0 where
    from : ℕ
    before : Place
    ss : List Placed
    names : Words
    begins : BeginsWith text from n before ss names
    good : IsGood from before names

  front : {to lines : ℕ} {at : Place} {ss : List Placed} {names : Words} → BeginsWith text to lines at ss names → (n : ℕ) → n < lines → Front n
  front nothing n lt = absurd (omega arith)
  front (empty_line from lines before ss names b inside none) n lt = by (nat_lt n lines) refl (front b n)
    where
      by : (test : Bool) → nat_lt n lines ≡ test → (n < lines → Front n) → Front n
      by true e more = more (grind (arith, nat_tests))
      by false e more = let is : lines ≡ n = grind (arith, nat_tests) in
          record { from = from; before = before; ss = ss; names = names; begins = subst (λ k. BeginsWith text from k before ss names) is b; good = is_empty inside none }
  front (statement from lines before behind ss names after ts s b inside tokens spelled may) n lt = by (nat_lt n lines) refl (front b n)
    where
      by : (test : Bool) → nat_lt n lines ≡ test → (n < lines → Front n) → Front n
      by true e more = more (grind (arith, nat_tests))
      by false e more = let is : lines ≡ n = grind (arith, nat_tests) in
          record { from = from; before = before; ss = ss; names = names; begins = subst (λ k. BeginsWith text from k before ss names) is b; good = is_said ts s after behind inside tokens spelled may }

  -- what makes a line bad, or the end
  data IsBad (from : ℕ) (before : Place) (names : Words) : Type 0 where
    has_bad_byte : from < length text → HasBadByte (line_at text from) → IsBad from before names
    has_no_statement : (ts : List Lexeme) → from < length text → lexemes_of (line_at text from) ≡ Some ts → 1 ≤ length ts
        → ((s : Statement) (after : Words) → SpellsStatement ts names s after → next_place before (kind_of s) ≡ None) → IsBad from before names
    ends_early : from ≡ length text → (before ≡ place.End → ⊥) → IsBad from before names

  never : {from : ℕ} {before : Place} {names : Words} → IsGood from before names → IsBad from before names → ⊥
  never (is_empty inside none) (has_bad_byte inside' bad) = let e = sym none ∙ bad in cc
  never {from} (is_empty inside none) (has_no_statement ts inside' tokens some none_said) = empty_or_not ts (line_at text from) none tokens some
  never (is_empty inside none) (ends_early end not_end) = omega arith
  never (is_said ts s after behind inside tokens spelled may) (has_bad_byte inside' bad) = let e = sym tokens ∙ bad in cc
  never {from} {before} {names} (is_said ts s after behind inside tokens spelled may) (has_no_statement ts' inside' tokens' some none_said) =
      let same-tokens : ts ≡ ts' = some_is ts ts' (sym tokens ∙ tokens') in
      let none = none_said s after (subst (λ w. SpellsStatement w names s after) same-tokens spelled) in
      let e = sym may ∙ none in cc
  never (is_said ts s after behind inside tokens spelled may) (ends_early end not_end) = omega arith

  record BadAt (line : ℕ) : Type 0 where
    n : ℕ
    line_is : line ≡ suc n
    from : ℕ
    before : Place
    ss : List Placed
    names : Words
    begins : BeginsWith text from n before ss names
    bad : IsBad from before names

  bad_at : {line : ℕ} → IsBadLine text line → BadAt line
  bad_at (bad_byte from lines before ss names b inside bad) =
      record { n = lines; line_is = refl; from = from; before = before; ss = ss; names = names; begins = b; bad = has_bad_byte inside bad }
  bad_at (bad_statement from lines before ss names ts b inside tokens some none_said) =
      record { n = lines; line_is = refl; from = from; before = before; ss = ss; names = names; begins = b; bad = has_no_statement ts inside tokens some none_said }
  bad_at (no_end lines before ss names b not_end) =
      record { n = lines; line_is = refl; from = length text; before = before; ss = ss; names = names; begins = b; bad = ends_early refl not_end }

  -- no line is both good and bad
  no_good : {from other : ℕ} {before behind : Place} {ss ts : List Placed} {names words : Words} {lines : ℕ}
      → BeginsWith text from lines before ss names → IsGood from before names → BeginsWith text other lines behind ts words → IsBad other behind words → ⊥
  no_good {from} {other} {before} {behind} {ss} {ts} {names} {words} b good b' bad =
      let h = same b b' refl in
      let first = subst (λ n. IsGood n before names) h.to_is good in
      let second = subst (λ p. IsGood other p names) h.place_is first in
      let third = subst (λ w. IsGood other behind w) h.named second in
      never third bad

  not_before : {to lines : ℕ} {at : Place} {ss : List Placed} {names : Words} {line : ℕ} → BeginsWith text to lines at ss names → (b : BadAt line) → b.n < lines → ⊥
  not_before begins b lt = let f = front begins b.n lt in no_good f.begins f.good b.begins b.bad

  pub one_bad : (line other : ℕ) → IsBadLine text line → IsBadLine text other → line ≡ other
  one_bad line other is is' =
      let b = bad_at is in
      let c = bad_at is' in
      let n-is : b.n ≡ c.n = trichotomy b.n c.n (not_before c.begins b) (not_before b.begins c) in
      omega (arith, b.line_is, c.line_is)

  -- the whole text has no line behind it
  not_behind : {lines more : ℕ} {at before : Place} {ss ts : List Placed} {names words : Words} {to : ℕ} → BeginsWith text (length text) lines at ss names
      → BeginsWith text to more before ts words → lines < more → ⊥
  not_behind {lines} whole begins lt =
      let f = front begins lines lt in
      let h = same f.begins whole refl in
      inside f.good h.to_is
    where
      inside : {from : ℕ} {before : Place} {names : Words} → IsGood from before names → from ≡ length text → ⊥
      inside (is_empty lt none) e = omega arith
      inside (is_said ts s after behind lt tokens spelled may) e = omega arith

  pub no_problem : (line : ℕ) (p : Problem) → IsBadLine text line → Spells text p → ⊥
  no_problem line p is spells =
      let b = bad_at is in
      let n-is : b.n ≡ spells.lines = trichotomy b.n spells.lines (not_before spells.spelled b) (not_behind spells.spelled b.begins) in
      let h = same b.begins spells.spelled n-is in
      at_the_end b.bad h.to_is h.place_is
    where
      at_the_end : {from : ℕ} {before : Place} {names : Words} → IsBad from before names → from ≡ length text → before ≡ place.End → ⊥
      at_the_end (has_bad_byte lt bad) e end = omega arith
      at_the_end (has_no_statement ts lt tokens some none_said) e end = omega arith
      at_the_end (ends_early e' not_end) e end = not_end end

  pub one_spelled : (p q : Problem) → Spells text p → Spells text q → p ≡ q
  one_spelled p q s t =
      let lines-are : s.lines ≡ t.lines = trichotomy s.lines t.lines (not_behind s.spelled t.spelled) (not_behind t.spelled s.spelled) in
      let h = same s.spelled t.spelled lines-are in
      let drafts : Some (draft place.End (record p { names = [] })) ≡ Some (draft place.End (record q { names = [] })) =
      sym (read_back p s.whole) ∙ ap (λ (w : List Placed). draft_of w) h.says ∙ read_back q t.whole in
      let bare : record p { names = [] } ≡ record q { names = [] } = ap (λ (d : Draft). d.problem) (some_is _ _ drafts) in
      ap (λ (x : Problem). record x { names = p.names }) bare ∙ ap (λ (w : Words). record q { names = w }) h.named
