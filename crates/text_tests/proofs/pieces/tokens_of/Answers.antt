use Rattle.std.proofs.Common.{arith}
use Rattle.kernel_parse.specs.LineTokens.{tokens_of_line}
use Rattle.text_tests.proofs.pieces.tokens_of.Goals as goal

pub returns : goal.returns
returns c =
    tokens_of_line c.args.text.now 0 1 c.new-tokens.result.items c.lex_line.new.out.items (omega arith) c.new-tokens.ensures.items c.in_ok-lex_line.ensures.ok
