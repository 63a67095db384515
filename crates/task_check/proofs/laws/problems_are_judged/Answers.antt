use Rattle.task_check.proofs.JudgedProblems.{judged}
use Rattle.task_check.proofs.laws.problems_are_judged.Goals as goal

pub returns : goal.returns
returns c = judged c.spans_hold_their_indexes.ensures
