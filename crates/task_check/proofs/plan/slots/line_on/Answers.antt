use Rattle.std.proofs.Common.{◌∙◌}
use Rattle.task_check.proofs.Written.{shares_on}
use Rattle.task_check.proofs.plan.slots.line_on.Goals as goal

pub returns-in-Reduces-clause-sum : goal.returns-in-Reduces-clause-sum
returns-in-Reduces-clause-sum c =
    c.patch_count.ensures.count ∙ shares_on c.args.p.now c.args.w.now c.args.level c.in-Reduces.field-0 c.in-Reduces.is
