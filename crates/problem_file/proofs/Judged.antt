-- A text is read line by line, up to its end or to a bad line.
use Rattle.std.proofs.Common.{◌≡◌, ℕ, zero, suc, ◌+◌, ◌≤◌, ◌<◌, Bool, true, false, List, [], ◌∷◌, length, Option, Some, None, ◌⊎◌, inl, inr, refl, sym, ap, ◌∙◌, subst, arith}
use Rattle.std.specs.Prelude.{nat_lt}
use Rattle.std.specs.Option.{option_map}
use Rattle.std.proofs.lemmas.Bool.Decides.{nat_tests}
use Rattle.uts_lex.specs.Lexemes.{Lexeme, lexemes_of}
use Rattle.uts_lex.specs.Lines.{line_at, after_line}
use Rattle.kernel_parse.specs.Grammar.{Words}
use Rattle.problem_types.specs.declared.problem.Problem.{Problem}
use Rattle.statement_parse.specs.Grammar.{SpellsStatement}
use Rattle.statement_parse.specs.Kinds.{kind_of}
use Rattle.statement_parse.specs.Laws.{OneStatement, FewNewNames, StatementsAreJudged}
use Rattle.statement_parse.specs.declared.statement.Statement.{Statement}
use Rattle.problem_file.specs.Order.{next_place}
use Rattle.problem_file.specs.Grammar.{Spells, IsBadLine, bad_byte, bad_statement, no_end}
use Rattle.problem_file.specs.Drafts.{empty_problem, with_statement, list_of, draft}
use Rattle.problem_file.specs.Laws.{EveryTextIsJudged}
use Rattle.problem_file.specs.Progress.{IsReadTo}
use Rattle.problem_file.specs.declared.draft.Draft.{Draft}
use Rattle.problem_file.specs.declared.order.Place.{Place}
use Rattle.problem_file.specs.declared.order.Place.TheVariants as place
use Rattle.problem_file.proofs.Reached.{at_start, behind_empty, behind_statement, spelled_at_end, line_lies}

is_end : (p : Place) → (p ≡ place.End) ⊎ (p ≡ place.End → ⊥)
is_end place.End = inl refl
is_end p = inr (λ e. absurd cc)

module _ (one : OneStatement) (few : FewNewNames) (judged : StatementsAreJudged) (text : List ℕ) where
  abbrev Judged : Type 0
  Judged = ((p : Problem) × Spells text p) ⊎ ((line : ℕ) × IsBadLine text line)

  -- how far the text is read with one more line
  record Further (from lines : ℕ) : Type 0 where
    names : Words
    reached : Draft
    read : IsReadTo text (after_line text from) (suc lines) names reached

  -- one line
  module _ (from lines : ℕ) (names : Words) (d : Draft) (read : IsReadTo text from lines names d) (lt : from < length text) where
    -- a statement, by the place behind it
    placed : (ts : List Lexeme) → lexemes_of (line_at text from) ≡ Some ts → (s : Statement) (after : Words) → SpellsStatement ts names s after
        → (behind : Option Place) → next_place d.place (kind_of s) ≡ behind → Further from lines ⊎ IsBadLine text (suc lines)
    placed ts tokens s after spelled (Some behind) may =
        let next = draft behind (with_statement (list_of d.place) (suc lines) s d.problem) in
        let drafts = ap (λ (o : Option Place). option_map (λ (b : Place). draft b (with_statement (list_of d.place) (suc lines) s d.problem)) o) may in
        inl (record { names = after; reached = next; read = behind_statement text from lines names d read lt few ts s after next tokens spelled drafts })
    placed ts tokens s after spelled None may =
        let some = (few ts names after s spelled).2 in
        inr (bad_statement from lines d.place read.statements names ts read.begins lt tokens some
        (λ t other spells.
        let same = one ts names after other s t spelled spells in
        ap (λ (x : Statement). next_place d.place (kind_of x)) (sym same.0) ∙ may))

    told : (ts : List Lexeme) → lexemes_of (line_at text from) ≡ Some ts → Further from lines ⊎ IsBadLine text (suc lines)
    told [] tokens = inl (record { names = names; reached = d; read = behind_empty text from lines names d read lt tokens })
    told (t ∷ ts) tokens =
        elim (judged (t ∷ ts) names) [
          | inl s ↦ placed (t ∷ ts) tokens s.0 s.1 s.2 (next_place d.place (kind_of s.0)) refl
          | inr none ↦ inr (bad_statement from lines d.place read.statements names (t ∷ ts) read.begins lt tokens (omega arith) (λ s after spelled. absurd (none s after spelled)))
        ]

    line_judged : (tokens : Option (List Lexeme)) → lexemes_of (line_at text from) ≡ tokens → Further from lines ⊎ IsBadLine text (suc lines)
    line_judged (Some ts) is = told ts is
    line_judged None is = inr (bad_byte from lines d.place read.statements names read.begins lt is)

  end_judged : (lines : ℕ) (names : Words) (d : Draft) → IsReadTo text (length text) lines names d → Judged
  end_judged lines names d read =
      elim (is_end d.place) [
        | inl end ↦ inl (record d.problem { names = names }, spelled_at_end text lines names d read end)
        | inr not_end ↦ inr (suc lines, no_end lines d.place read.statements names read.begins not_end)
      ]

  -- what holds of the text where so many bytes at most are left
  abbrev Rest : ℕ → Type 0
  Rest left = (from lines : ℕ) (names : Words) (d : Draft) → IsReadTo text from lines names d → length text ≤ from + left → Judged

  further_judged : (left from lines : ℕ) → Rest left → from < length text → length text ≤ from + suc left → Further from lines ⊎ IsBadLine text (suc lines) → Judged
  further_judged left from lines rest lt le (inl f) =
      let l = line_lies text from lt in
      rest (after_line text from) (suc lines) f.names f.reached f.read (omega (arith, l.further))
  further_judged left from lines rest lt le (inr bad) = inr (suc lines, bad)

  rest_judged : (left : ℕ) → Rest left
  rest_judged zero from lines names d read le =
      let end : from ≡ length text = omega (arith, read.inside) in
      end_judged lines names d (subst (λ n. IsReadTo text n lines names d) end read)
  rest_judged (suc left) from lines names d read le = by (nat_lt from (length text)) refl (rest_judged left)
    where
      by : (b : Bool) → nat_lt from (length text) ≡ b → Rest left → Judged
      by true e rest =
          let lt : from < length text = grind (arith, nat_tests) in
          further_judged left from lines rest lt le (line_judged from lines names d read lt (lexemes_of (line_at text from)) refl)
      by false e rest =
          let inside = read.inside in
          let end : from ≡ length text = grind (arith, nat_tests) in
          end_judged lines names d (subst (λ n. IsReadTo text n lines names d) end read)

pub all_judged : OneStatement → FewNewNames → StatementsAreJudged → EveryTextIsJudged
all_judged one few judged text = rest_judged one few judged text (length text) 0 0 [] (draft place.Start empty_problem) (at_start text) (omega arith)
