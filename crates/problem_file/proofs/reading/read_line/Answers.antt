use Rattle.std.proofs.Common.{ap, sym, ◌∙◌, subst, arith}
use Rattle.std.specs.Prelude.{◌≡◌, List, None, All, Some, Err}
use Rattle.std.proofs.lemmas.Result.{err_from_is_err_and}
use Rattle.uts_lex.specs.declared.token.Token.{Token}
use Rattle.kernel_parse.specs.Grammar.{Words}
use Rattle.kernel_parse.specs.Source.{LiesIn, lexemes}
use Rattle.statement_parse.specs.Kinds.{kind_of}
use Rattle.problem_file.specs.Order.{next_place}
use Rattle.kernel_parse.specs.LineTokens.{tokens_of_line}
use Rattle.statement_parse.specs.Grammar.{SpellsStatement}
use Rattle.statement_parse.specs.declared.statement.Statement.{Statement}
use Rattle.problem_file.specs.Statements.{at}
use Rattle.problem_file.specs.Drafts.{drafted}
use Rattle.problem_file.specs.Grammar.{IsBadLine}
use Rattle.problem_file.specs.Progress.{IsReadTo}
use Rattle.problem_file.proofs.Reached.{blamed, bad_byte_here, few_here, empty_here, said_here, unsaid_here, nothing_in, something_in}
use Rattle.problem_file.proofs.reading.read_line.Goals as goal

pub returns-in-Err-BadByte-clause-bad_text : goal.returns-in-Err-BadByte-clause-bad_text
returns-in-Err-BadByte-clause-bad_text c =
    bad_byte_here c.args.text.now c.args.start c.args.line c.args.names.now c.args.draft.now c.requires.from_one c.requires.read c.requires.inside
    (c.lex_line.ensures.bad_byte (c.in-Err-BadByte.is ∙ ap (λ f. Err f) c.in-Err-BadByte.field-0-is))

pub returns-then-is_empty-clause-read : goal.returns-then-is_empty-clause-read
returns-then-is_empty-clause-read c =
    let read = empty_here c.args.text.now c.args.start c.args.line c.args.names.now c.args.draft.now c.requires.from_one c.requires.read c.requires.inside
    c.new-tokens.result.items c.lex_line.new.out.items c.new-tokens.ensures.items c.in-Ok.ensures.ok
    (sym c.as_slice-tokens.ensures.value ∙ nothing_in c.as_slice-tokens.result.now (sym c.if-is_empty.ensures)) in
    subst (λ n. IsReadTo c.args.text.now n c.args.line c.args.names.now c.args.draft.now) (sym c.in-Ok.ensures.place) read

pub read_statement-requires-clause-inside : goal.read_statement-requires-clause-inside
read_statement-requires-clause-inside c =
    subst (All (LiesIn c.args.text.now)) (sym c.as_slice-tokens.ensures.value)
    (tokens_of_line c.args.text.now c.args.start c.args.line c.new-tokens.result.items c.lex_line.new.out.items (omega (arith, c.requires.inside)) c.new-tokens.ensures.items c.in-Ok.ensures.ok)

pub read_statement-requires-clause-few : goal.read_statement-requires-clause-few
read_statement-requires-clause-few c =
    rw c.as_slice-tokens.ensures.value
    (few_here c.args.text.now c.args.start c.args.line c.args.names.now c.args.draft.now c.requires.from_one c.requires.read c.requires.inside
    c.new-tokens.result.items c.lex_line.new.out.items c.new-tokens.ensures.items c.in-Ok.ensures.ok c.requires.short)

pub returns-in_err-read_statement-clause-bad_text : goal.returns-in_err-read_statement-clause-bad_text
returns-in_err-read_statement-clause-bad_text c =
    let p = err_from_is_err_and c.from_residual.result c.from_residual.ensures.1 in
    let unsaid = λ (w : List Token). (s : Statement) (after : Words) → SpellsStatement (lexemes c.args.text.now w) c.args.names.now s after → next_place c.args.draft.now.place (kind_of s) ≡ None in
    rw (p.1, p.2) (blamed (IsBadLine c.args.text.now) (unsaid c.as_slice-tokens.result.now) c.args.line c.in_err-read_statement.field-0.0 c.in_err-read_statement.ensures.unsaid
    (λ none. unsaid_here c.args.text.now c.args.start c.args.line c.args.names.now c.args.draft.now c.requires.from_one c.requires.read c.requires.inside
    c.new-tokens.result.items c.lex_line.new.out.items c.new-tokens.ensures.items c.in-Ok.ensures.ok
    (λ is. something_in c.as_slice-tokens.result.now (sym c.if-is_empty.ensures) (c.as_slice-tokens.ensures.value ∙ is))
    (subst unsaid c.as_slice-tokens.ensures.value none)))

pub returns-clause-read : goal.returns-clause-read
returns-clause-read c =
    let said = subst (λ w. (s : Statement) × SpellsStatement (lexemes c.args.text.now w) c.args.names.now s c.read_statement.new.names × (drafted c.args.draft.now (at c.args.line s) ≡ Some c.read_statement.new.draft))
    c.as_slice-tokens.ensures.value c.in_ok-read_statement.ensures.said in
    let read = said_here c.args.text.now c.args.start c.args.line c.args.names.now c.args.draft.now c.requires.from_one c.requires.read c.requires.inside
    c.new-tokens.result.items c.lex_line.new.out.items c.new-tokens.ensures.items c.in-Ok.ensures.ok c.few_new_names.ensures c.read_statement.new.names c.read_statement.new.draft said in
    subst (λ n. IsReadTo c.args.text.now n c.args.line c.read_statement.new.names c.read_statement.new.draft) (sym c.in-Ok.ensures.place) read
