use Rattle.problem_file.proofs.Judged.{all_judged}
use Rattle.problem_file.proofs.laws.every_text_is_judged.Goals as goal

pub returns : goal.returns
returns c = all_judged c.one_statement.ensures c.few_new_names.ensures c.statements_are_judged.ensures
