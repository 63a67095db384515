use Rattle.std.proofs.Common.{subst, sym, arith}
use Rattle.std.specs.Prelude.{All}
use Rattle.kernel_parse.specs.Source.{LiesIn}
use Rattle.kernel_parse.specs.LineTokens.{tokens_of_line}
use Rattle.text_tests.proofs.expressions.read_with.Goals as goal

pub parse_expr-requires-clause-inside : goal.parse_expr-requires-clause-inside
parse_expr-requires-clause-inside c =
    subst (All (LiesIn c.args.text.now)) (sym c.deref.ensures.value)
    (tokens_of_line c.args.text.now 0 1 c.new-tokens.result.items c.lex_line.new.out.items (omega arith) c.new-tokens.ensures.items c.in_ok-lex_line.ensures.ok)
