use Rattle.statement_parse.proofs.Forms.{statements_in_form}
use Rattle.statement_parse.proofs.laws.statements_are_in_form.Goals as goal

pub returns : goal.returns
returns c = statements_in_form c.spelled_in_form.ensures c.few_new_words.ensures
