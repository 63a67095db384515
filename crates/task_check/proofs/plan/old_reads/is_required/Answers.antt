use Rattle.std.proofs.Common.{◌∙◌, ap, sym}
use Rattle.problem_types.specs.Lists.{task_list}
use Rattle.task_check.specs.OldSlots.{requires_old}
use Rattle.task_check.proofs.Finding.{found_here, none_found}
use Rattle.task_check.proofs.plan.old_reads.is_required.Goals as goal

pub returns-then-requires_old : goal.returns-then-requires_old
returns-then-requires_old c =
    found_here (requires_old c.args.name) (task_list c.args.p.now c.args.list) c.task_list-t-items.result.now
    c.task_list-t-items.ensures c.loop-t.t-index c.t-item.result c.loop-t-test.true
    (ap (requires_old c.args.name) (sym c.t-item.is) ∙ sym c.requires_old.ensures ∙ c.if-requires_old.true)

pub returns : goal.returns
returns c =
    none_found (requires_old c.args.name) (task_list c.args.p.now c.args.list) c.task_list-t-items.result.now
    c.task_list-t-items.ensures c.loop-t.t-index c.loop-t-test.false c.loop-t.invariant
