use Rattle.problem_file.proofs.Lines.{one_bad}
use Rattle.problem_file.proofs.laws.one_bad_line.Goals as goal

pub returns : goal.returns
returns c = λ text line other is is2. one_bad c.one_statement.ensures c.few_new_names.ensures text line other is is2
