use Rattle.statement_parse.proofs.Judged.{all_judged}
use Rattle.statement_parse.proofs.laws.statements_are_judged.Goals as goal

pub returns : goal.returns
returns c = all_judged c.expressions_are_judged.ensures
