use Rattle.sched_core.proofs.EndsDone.{drawn_done}
use Rattle.sched_core.proofs.ends.drawn_is_done.Goals as goal

pub returns : goal.returns
returns c = drawn_done
