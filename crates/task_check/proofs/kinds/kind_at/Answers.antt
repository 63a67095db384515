use Rattle.task_check.proofs.Ranks.{rank_at}
use Rattle.task_check.proofs.kinds.kind_at.Goals as goal

pub returns : goal.returns
returns c = rank_at c.args.place _ c.requires
