use Rattle.kernel_parse.specs.SourceLaws.{IsBehind_first}
use Rattle.kernel_parse.proofs.tokens.split_of_kind.Goals as goal

pub returns-clause-rest : goal.returns-clause-rest
returns-clause-rest g c = IsBehind_first _ _ _ _ c.in_ok-first.ensures.cases.0 c.requires
