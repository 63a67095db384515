use Rattle.problem_file.proofs.InForm.{in_form}
use Rattle.problem_file.proofs.laws.problems_are_in_form.Goals as goal

pub returns : goal.returns
returns c = in_form c.few_new_names.ensures c.statements_are_in_form.ensures
