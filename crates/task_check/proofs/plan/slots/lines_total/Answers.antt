use Rattle.std.proofs.Common.{◌≤◌, ◌<◌, length, arith}
use Rattle.task_check.proofs.Accepted.{levels_below}
use Rattle.task_check.proofs.Details.{has_few}
use Rattle.task_check.proofs.plan.slots.lines_total.Goals as goal

pub line_total-total-requires-clause-few_levels : goal.line_total-total-requires-clause-few_levels
line_total-total-requires-clause-few_levels c =
    let few = has_few c.args.p.now c.args.t.now c.requires.form c.requires.faultless c.requires.task in
    rw c.as_slice.ensures few.levels

pub line_total-total-requires-clause-levels : goal.line_total-total-requires-clause-levels
line_total-total-requires-clause-levels c =
    let there = c.requires.task in
    rw c.as_slice.ensures (levels_below c.args.p.now c.requires.form c.requires.faultless there.0 there.1 c.args.t.now there.2)

pub overflow_add-total : goal.overflow_add-total
overflow_add-total c =
    let few = has_few c.args.p.now c.args.t.now c.requires.form c.requires.faultless c.requires.task in
    let below : c.loop-w.w-index < length c.args.t.now.writes = rw c.as_slice-w-items.ensures at c.loop-w-test.true in
    omega (arith, few.lines, below, c.loop-w.invariant.few, c.line_total-total.ensures.few)

pub returns-clause-few : goal.returns-clause-few
returns-clause-few c =
    let few = has_few c.args.p.now c.args.t.now c.requires.form c.requires.faultless c.requires.task in
    let within : c.loop-w.w-index ≤ length c.args.t.now.writes = rw c.as_slice-w-items.ensures at c.loop-w.auto.w-index-end in
    omega (arith, few.lines, within, c.loop-w.invariant.few)
