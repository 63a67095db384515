use Rattle.task_check.proofs.Supplied.{supplied_with_few}
use Rattle.task_check.proofs.supplies.is_all_supplied.Goals as goal

pub returns : goal.returns
returns c =
    let same = supplied_with_few c.args.problem.now c.args.task.now c.args.write.now c.requires c.kernel_centring-kernel.result c.kernel_centring-kernel.ensures in
    (λ yes. same.0 (c.allows_all.ensures.0 yes), λ h. c.allows_all.ensures.1 (same.1 h))
