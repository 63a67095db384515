use Rattle.std.proofs.Common.{arith, ◌≤◌, ◌*◌, length}
use Rattle.std.proofs.Math.Nat.{mul-le-mul}
use Rattle.task_check.proofs.Details.{has_few}
use Rattle.task_check.proofs.plan.slots.slots_written.Goals as goal

pub returns-clause-few : goal.returns-clause-few
returns-clause-few c =
    let few = has_few c.args.p.now c.args.t.now c.requires.form c.requires.faultless c.requires.task in
    let writes : length c.as_slice-writes.result.now ≤ 64 = rw c.as_slice-writes.ensures (omega (arith, few.lines)) in
    let product : c.part_count.result * length c.as_slice-writes.result.now ≤ 32768 * 64 = mul-le-mul c.part_count.ensures.few writes in
    omega (arith, product, writes, c.reduces_count.ensures.within)
