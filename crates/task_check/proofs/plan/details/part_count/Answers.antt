use Rattle.std.proofs.Common.{◌≤◌, ◌*◌, arith}
use Rattle.std.proofs.Math.Nat.{mul-le-mul}
use Rattle.task_check.proofs.Details.{has_few}
use Rattle.task_check.proofs.plan.details.part_count.Goals as goal

pub patches_on-requires-clause-few_levels : goal.patches_on-requires-clause-few_levels
patches_on-requires-clause-few_levels c =
    let few = has_few c.args.p.now c.args.t.now c.requires.form c.requires.faultless c.requires.task in
    rw c.as_slice.ensures few.levels

pub returns-clause-few : goal.returns-clause-few
returns-clause-few c =
    let few = has_few c.args.p.now c.args.t.now c.requires.form c.requires.faultless c.requires.task in
    let materials : c.len.result ≤ 8 = rw c.len.ensures few.materials in
    let product : c.len.result * c.patches_on.result ≤ 8 * 4096 = mul-le-mul materials c.patches_on.ensures.few in
    omega (arith, product)

pub overflow_mul-result : goal.overflow_mul-result
overflow_mul-result c = let few = returns-clause-few c in omega (arith, few)
