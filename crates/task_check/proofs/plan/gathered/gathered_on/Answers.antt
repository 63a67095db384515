use Rattle.std.proofs.Common.{◌<◌, arith, length}
use Rattle.std.proofs.lemmas.List.Elements.{All-contains}
use Rattle.task_check.proofs.Accepted.{levels_below}
use Rattle.task_check.proofs.Details.{has_few}
use Rattle.task_check.proofs.Gathered.{required_fits}
use Rattle.task_check.proofs.plan.gathered.gathered_on.Goals as goal

pub gathered_for-total-requires-clause-few_layers : goal.gathered_for-total-requires-clause-few_layers
gathered_for-total-requires-clause-few_layers c =
    let below : c.loop-r.r-index < length c.args.t.now.requirements = rw c.as_slice-r-items.ensures at c.loop-r-test.true in
    rw c.as_slice-r-items.ensures ((required_fits c.args.p.now c.args.t.now c.requires.form c.requires.faultless c.requires.task c.loop-r.r-index _ below).0)

pub gathered_for-total-requires-clause-level : goal.gathered_for-total-requires-clause-level
gathered_for-total-requires-clause-level c =
    let there = c.requires.task in
    All-contains (λ l. l < length c.args.p.now.levels) c.args.t.now.levels c.args.level
    (levels_below c.args.p.now c.requires.form c.requires.faultless there.0 there.1 c.args.t.now there.2) c.requires.level

pub gathered_for-total-requires-clause-wanted : goal.gathered_for-total-requires-clause-wanted
gathered_for-total-requires-clause-wanted c =
    let below : c.loop-r.r-index < length c.args.t.now.requirements = rw c.as_slice-r-items.ensures at c.loop-r-test.true in
    rw c.as_slice-r-items.ensures
    ((required_fits c.args.p.now c.args.t.now c.requires.form c.requires.faultless c.requires.task c.loop-r.r-index _ below).1 c.args.level c.requires.level)

pub overflow_add-total : goal.overflow_add-total
overflow_add-total c =
    let few = has_few c.args.p.now c.args.t.now c.requires.form c.requires.faultless c.requires.task in
    let below : c.loop-r.r-index < length c.args.t.now.requirements = rw c.as_slice-r-items.ensures at c.loop-r-test.true in
    omega (arith, few.lines, below, c.loop-r.invariant.few, c.gathered_for-total.ensures.few)
