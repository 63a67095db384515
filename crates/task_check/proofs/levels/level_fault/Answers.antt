use Rattle.task_check.proofs.Accepted.{level_in_form}
use Rattle.task_check.proofs.FarBounds.{seen_first}
use Rattle.task_check.proofs.levels.level_fault.Goals as goal

pub returns : goal.returns
returns c = seen_first c.args.problem.now c.args.level c.args.item.now c.requires.at
    (level_in_form c.args.problem.now c.requires.form c.args.level c.args.item.now c.requires.at) c.requires.coarser c.first_fault.result c.first_fault.ensures
