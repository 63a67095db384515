-- Tokens are a statement or none.
use Rattle.std.proofs.Common.{◌≡◌, ℕ, List, Option, Some, None, ◌⊎◌, inl, inr, refl}
use Rattle.uts_lex.specs.Lexemes.{Lexeme}
use Rattle.uts_lex.specs.Names.{number_of, with_name}
use Rattle.kernel_parse.specs.Grammar.{Words}
use Rattle.kernel_parse.specs.Laws.{ExpressionsAreJudged}
use Rattle.problem_types.specs.declared.problem.WriteKind.{WriteKind}
use Rattle.statement_parse.specs.declared.statement.Statement.{Statement}
use Rattle.statement_parse.specs.declared.statement.Statement.TheVariants as statement
use Rattle.statement_parse.specs.Grammar.{SpellsStatement}
use Rattle.statement_parse.specs.Laws.{StatementsAreJudged}
use Rattle.statement_parse.specs.Reading.{Stated, statement_at, target_at}
use Rattle.statement_parse.proofs.Once.{write_spelled, write_refused, spelled_plainly, refused}

abbrev IsStatement : List Lexeme → Words → Type 0
IsStatement ts names = (s : Statement) × (after : Words) × SpellsStatement ts names s after

abbrev IsNone : List Lexeme → Words → Type 0
IsNone ts names = (s : Statement) (after : Words) → SpellsStatement ts names s after → ⊥

-- what begins as a write, by the expression behind it
write_judged : ExpressionsAreJudged → (ts us : List Lexeme) (names : Words) (name : List ℕ) (kind : WriteKind) → target_at ts ≡ Some (name, kind, us)
    → IsStatement ts names ⊎ IsNone ts names
write_judged judged ts us names name kind is =
    elim (judged us (with_name names name)) [
      | inl e ↦
          let s = statement.Write kind (number_of names name) e.0 in
          inl (s, e.1, write_spelled names e.1 ts us name kind s is (record { expr = e.0; is = refl; spelled = e.2 }))
      | inr none ↦ inr (write_refused names ts us name kind is none)
    ]

-- what does not, by what is read
other_judged : (ts : List Lexeme) (names : Words) → target_at ts ≡ None → (read : Option Stated) → statement_at names ts ≡ read
    → IsStatement ts names ⊎ IsNone ts names
other_judged ts names no_write (Some r) is = inl (r.statement, r.names, spelled_plainly names r.names ts r.statement is)
other_judged ts names no_write None is = inr (refused names ts no_write is)

target_judged : ExpressionsAreJudged → (ts : List Lexeme) (names : Words) (target : Option (List ℕ × WriteKind × List Lexeme)) → target_at ts ≡ target
    → IsStatement ts names ⊎ IsNone ts names
target_judged judged ts names (Some t) is = write_judged judged ts t.2 names t.0 t.1 is
target_judged judged ts names None is = other_judged ts names is (statement_at names ts) refl

pub all_judged : ExpressionsAreJudged → StatementsAreJudged
all_judged judged ts names = target_judged judged ts names (target_at ts) refl
