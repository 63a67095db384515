use Rattle.kernel_parse.specs.SourceLaws.{IsBehind_first}
use Rattle.kernel_parse.proofs.tokens.behind_word.Goals as goal

pub returns-then-is_lexeme-clause-rest : goal.returns-then-is_lexeme-clause-rest
returns-then-is_lexeme-clause-rest c = IsBehind_first _ _ _ _ c.in_ok-first.ensures.cases.0 c.requires
