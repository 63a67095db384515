use Rattle.std.proofs.Common.{sym, ◌∙◌}
use Rattle.uts_lex.specs.Tokens.{lexeme_at}
use Rattle.kernel_parse.specs.Signs.{entry_of}
use Rattle.kernel_parse.proofs.Tables.{meaning_here, meaning_further}
use Rattle.kernel_parse.proofs.lexeme.meaning_of.Goals as goal

pub returns-then-is_lexeme : goal.returns-then-is_lexeme
returns-then-is_lexeme g c =
    sym (c.loop-bytes.invariant ∙ meaning_here entry_of c.args.kind (lexeme_at c.args.text.now c.args.token.now) c.args.table.now c.loop-bytes.bytes-index c.loop-bytes-item.result
    c.loop-bytes-test.true c.loop-bytes-item.is (sym c.is_lexeme.ensures ∙ c.if-is_lexeme.true))

pub loop-bytes-preserved : goal.loop-bytes-preserved
loop-bytes-preserved g c =
    c.loop-bytes.invariant ∙ meaning_further entry_of c.args.kind (lexeme_at c.args.text.now c.args.token.now) c.args.table.now c.loop-bytes.bytes-index c.loop-bytes-item.result
    c.loop-bytes-test.true c.loop-bytes-item.is (sym c.is_lexeme.ensures ∙ c.if-is_lexeme.false)
