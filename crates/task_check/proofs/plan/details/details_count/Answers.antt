use Rattle.std.proofs.Common.{arith, ◌≤◌, length}
use Rattle.task_check.proofs.Details.{has_few}
use Rattle.task_check.proofs.plan.details.details_count.Goals as goal

pub returns-clause-few : goal.returns-clause-few
returns-clause-few c =
    let few = has_few c.args.p.now c.args.t.now c.requires.form c.requires.faultless c.requires.task in
    let within : c.reduces_count.result ≤ length c.args.t.now.writes = rw c.as_slice.ensures at c.reduces_count.ensures.within in
    omega (arith, few.lines, within, c.part_count.ensures.few)
