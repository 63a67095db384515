use Rattle.task_check.proofs.OneFirst.{one_first}
use Rattle.task_check.proofs.laws.first_faults_are_one.Goals as goal

pub returns : goal.returns
returns c = one_first
