use Rattle.problem_file.proofs.Lines.{one_spelled}
use Rattle.problem_file.proofs.laws.one_problem.Goals as goal

pub returns : goal.returns
returns c = λ text p q s t. one_spelled c.one_statement.ensures c.few_new_names.ensures text p q s t
