use Rattle.statement_parse.proofs.Once.{one_at_most}
use Rattle.statement_parse.proofs.laws.one_statement.Goals as goal

pub returns : goal.returns
returns c = one_at_most c.one_reading.ensures
