use Rattle.std.proofs.Common.{◌≡◌, ◌∙◌, ◌+◌, ◌-◌, ◌<◌, suc, length, ap, arith}
use Rattle.std.specs.Prelude.{slice_get}
use Rattle.graph_text.specs.Listing.{plan_lines}
use Rattle.graph_text.proofs.Lines.{at_slot, at_task, length-plan_lines, put_at, put_first}
use Rattle.graph_text.proofs.plan.put_line.Goals as goal

pub put_task-requires-clause-within : goal.put_task-requires-clause-within
put_task-requires-clause-within c =
    omega (arith, c.requires.within, length-plan_lines c.args.p.now c.args.list c.args.plan.now, ap length c.as_slice-slots.ensures)

pub returns-then-number-eq0 : goal.returns-then-number-eq0
returns-then-number-eq0 c =
    put_first c.args.p.now c.args.list c.args.plan.now c.args.number c.put_plan_line.result c.put_plan_line.new.line.items (omega arith) c.put_plan_line.ensures

pub returns-then-number-slots : goal.returns-then-number-slots
returns-then-number-slots c =
    let number = c.args.number in
    let plan = c.args.plan.now in
    let below : number - 1 < length plan.slots = omega (arith, ap length c.as_slice-slots.ensures) in
    let next : number ≡ suc (number - 1) = omega arith in
    put_at (plan_lines c.args.p.now c.args.list plan) number c.put_slot.result c.put_slot.new.line.items
    (ap (slice_get (plan_lines c.args.p.now c.args.list plan)) next ∙ at_slot c.args.p.now c.args.list plan (number - 1) below) c.put_slot.ensures

pub returns-else-number-slots : goal.returns-else-number-slots
returns-else-number-slots c =
    let number = c.args.number in
    let plan = c.args.plan.now in
    let slots = length c.as_slice-slots.result.now in
    let next : number ≡ suc (length plan.slots + (number - 1 - slots)) = omega (arith, ap length c.as_slice-slots.ensures) in
    put_at (plan_lines c.args.p.now c.args.list plan) number c.put_task.result c.put_task.new.line.items
    (ap (slice_get (plan_lines c.args.p.now c.args.list plan)) next ∙ at_task c.args.p.now c.args.list plan (number - 1 - slots)) c.put_task.ensures
