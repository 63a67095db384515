use Rattle.problem_file.proofs.Lines.{no_problem}
use Rattle.problem_file.proofs.laws.no_problem_with_a_bad_line.Goals as goal

pub returns : goal.returns
returns c = λ text line p is spells. no_problem c.one_statement.ensures c.few_new_names.ensures text line p is spells
