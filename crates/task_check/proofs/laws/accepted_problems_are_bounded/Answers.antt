use Rattle.task_check.proofs.Bounded.{accepted_are_bounded}
use Rattle.task_check.proofs.laws.accepted_problems_are_bounded.Goals as goal

pub returns : goal.returns
returns c = accepted_are_bounded
