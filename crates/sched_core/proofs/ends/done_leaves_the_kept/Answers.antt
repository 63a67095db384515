use Rattle.sched_core.proofs.EndsKept.{done_kept}
use Rattle.sched_core.proofs.ends.done_leaves_the_kept.Goals as goal

pub returns : goal.returns
returns c = done_kept
