use Rattle.std.proofs.Common.{◌≤◌, ◌*◌, length, arith}
use Rattle.std.proofs.Math.Nat.{mul-le-mul}
use Rattle.task_check.proofs.Details.{has_few}
use Rattle.task_check.proofs.plan.slots.written_total.Goals as goal

pub overflow_mul-result : goal.overflow_mul-result
overflow_mul-result c =
    let few = has_few c.args.p.now c.args.t.now c.requires.form c.requires.faultless c.requires.task in
    let materials : c.len.result ≤ 8 = rw c.len.ensures few.materials in
    let product : c.len.result * c.lines_total.result ≤ 8 * 18027595870502912 = mul-le-mul materials c.lines_total.ensures.few in
    omega (arith, product)

pub returns-clause-few : goal.returns-clause-few
returns-clause-few c =
    let few = has_few c.args.p.now c.args.t.now c.requires.form c.requires.faultless c.requires.task in
    let materials : c.len.result ≤ 8 = rw c.len.ensures few.materials in
    let within : c.reduces_count.result ≤ length c.args.t.now.writes = rw c.as_slice.ensures at c.reduces_count.ensures.within in
    let product : c.len.result * c.lines_total.result ≤ 8 * 18027595870502912 = mul-le-mul materials c.lines_total.ensures.few in
    omega (arith, product, within, few.lines)

pub overflow_add-result : goal.overflow_add-result
overflow_add-result c = let few = returns-clause-few c in omega (arith, few)
