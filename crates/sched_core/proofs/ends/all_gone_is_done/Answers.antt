use Rattle.sched_core.proofs.EndsDone.{all_gone_done}
use Rattle.sched_core.proofs.ends.all_gone_is_done.Goals as goal

pub returns : goal.returns
returns c = all_gone_done
