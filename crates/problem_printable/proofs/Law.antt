-- A problem that some text spells can be printed.
use Rattle.std.proofs.Common.{◌≡◌, ℕ, suc, ◌≤◌, true, refl, sym, ap, ◌∙◌, subst, arith, rules, append_assoc, List, [], ◌∷◌, ◌++◌, length, map, All, Some, nat_lt}
use Rattle.std.specs.List.{flat_map}
use Rattle.std.proofs.lemmas.Bool.Decides.{nat_tests}
use Rattle.std.proofs.lemmas.List.{append-nil}
use Rattle.std.proofs.lemmas.List.Elements.{All-nil, All-cons, All-append}
use Rattle.uts_lex.specs.Lexemes.{Lexeme}
use Rattle.uts_lex.specs.Lines.{line_at}
use Rattle.kernel_parse.specs.Grammar.{Words}
use Rattle.problem_types.specs.Ascent.{last_ascending}
use Rattle.statement_parse.specs.Grammar.{SpellsStatement}
use Rattle.statement_parse.specs.declared.statement.Statement.{Statement}
use Rattle.problem_file.specs.Statements.{Placed, at}
use Rattle.problem_file.specs.Grammar.{BeginsWith, nothing, empty_line, statement}
use Rattle.problem_file.specs.declared.order.Place.{Place}
use Rattle.problem_printable.specs.Laws.{SpelledCanBePrinted}
use Rattle.problem_printable.specs.Numbering.{statement_names}
use Rattle.problem_printable.specs.Printable.{IsSayable}
use Rattle.problem_types.specs.Ascent.{followed, increasing_where_some}
use Rattle.problem_printable.specs.Known.{known_grows}
use Rattle.problem_printable.proofs.Naming.{Grows, grows_none, grows_both, no_names}
use Rattle.problem_printable.proofs.SpelledNames.{AreSpelled}
use Rattle.problem_printable.proofs.Statements.{SpelledInForm, statement_named, statement_sayable}
use Rattle.problem_printable.proofs.Tokens.{LongestAtFront, tokens_spelled}

abbrev pub lines_of : List Placed → List ℕ
lines_of ss = map (λ s. s.line) ss

abbrev pub names_of : List Placed → List ℕ
names_of ss = flat_map (λ s. statement_names s.statement) ss

lines_append : (ss ts : List Placed) → lines_of (ss ++ ts) ≡ lines_of ss ++ lines_of ts
lines_append [] ts = refl
lines_append (s ∷ ss) ts = ap (λ ls. s.line ∷ ls) (lines_append ss ts)

names_push : (ss : List Placed) (s : Placed) → names_of (ss ++ s ∷ []) ≡ names_of ss ++ statement_names s.statement
names_push [] s = append-nil (statement_names s.statement)
names_push (t ∷ ss) s = ap (λ ns. statement_names t.statement ++ ns) (names_push ss s)
    ∙ sym (append_assoc (statement_names t.statement) (names_of ss) (statement_names s.statement))

-- what is known of the statements that some lines spell
record AreSaid (lines : ℕ) (ss : List Placed) (names : Words) : Type 0 where
  last : ℕ
  early : last ≤ lines
  ascending : last_ascending 0 (lines_of ss) ≡ Some last
  named : Grows [] (names_of ss) names
  sayable : (known : ℕ) → length names ≤ known → All (λ s. IsSayable known s.statement) ss

module _ (in_form : SpelledInForm) (longest : LongestAtFront) where
  one_more : (lines : ℕ) (ss : List Placed) (names after : Words) (ts : List Lexeme) (s : Statement)
      → AreSaid lines ss names → AreSpelled ts → SpellsStatement ts names s after → AreSaid (suc lines) (ss ++ at (suc lines) s ∷ []) after
  one_more lines ss names after ts s said spelled is =
      let below : nat_lt said.last (suc lines) ≡ true = let le = said.early in grind (arith, nat_tests, le) in
      let grown = statement_named is spelled in
      record {
        last = suc lines;
        early = omega arith;
        ascending = ap (last_ascending 0) (lines_append ss (at (suc lines) s ∷ []))
            ∙ (followed 0 (lines_of ss) (suc lines ∷ []) said.last said.ascending ∙ (rw below refl));
        named = subst (λ (ns : List ℕ). Grows [] ns after) (sym (names_push ss (at (suc lines) s))) (grows_both [] names after (names_of ss) (statement_names s) said.named grown);
        sayable = λ known le. All-append (λ s. IsSayable known s.statement) ss (at (suc lines) s ∷ [])
            (said.sayable known (omega (arith, known_grows (length names) (statement_names s) (length after) grown.numbered)))
            (All-cons (λ s. IsSayable known s.statement) (at (suc lines) s) [] (statement_sayable in_form is known le) (All-nil (λ s. IsSayable known s.statement)));
      }

  said : {text : List ℕ} {to lines : ℕ} {behind : Place} {ss : List Placed} {names : Words} → BeginsWith text to lines behind ss names → AreSaid lines ss names
  said nothing = record {
    last = 0;
    early = omega arith;
    ascending = refl;
    named = grows_none [];
    sayable = λ known le. All-nil (λ s. IsSayable known s.statement);
  }
  said (empty_line from count before ss names b inside empty) =
      let before = said b in
      record {
        last = before.last;
        early = let le = before.early in omega arith;
        ascending = before.ascending;
        named = before.named;
        sayable = before.sayable;
      }
  said {text} (statement from count before then ss names after ts s b inside tokens is next) =
      one_more count ss names after ts s (said b) (tokens_spelled longest (line_at text from) ts tokens) is

  pub spelled_printable : SpelledCanBePrinted
  spelled_printable p (text, spelled) =
      let all = said spelled.spelled in
      record {
        whole = spelled.whole;
        lines = increasing_where_some 0 _ (let last = all.ascending in search rules);
        names = all.named.kept no_names;
        numbered = all.named.numbered;
        statements = all.sayable _ (omega arith);
      }
