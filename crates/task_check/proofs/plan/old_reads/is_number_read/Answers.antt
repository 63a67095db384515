use Rattle.std.proofs.Common.{◌∙◌, ap, sym}
use Rattle.problem_types.specs.Lists.{task_list}
use Rattle.task_check.specs.OldSlots.{reads_number}
use Rattle.task_check.proofs.OldReads.{number_is_read}
use Rattle.task_check.proofs.Finding.{found_here, none_found}
use Rattle.task_check.proofs.plan.old_reads.is_number_read.Goals as goal

pub returns-then-reads_number : goal.returns-then-reads_number
returns-then-reads_number c =
    found_here (reads_number c.args.name) (task_list c.args.p.now c.args.list) c.task_list-t-items.result.now
    c.task_list-t-items.ensures c.loop-t.t-index c.t-item.result c.loop-t-test.true
    (ap (reads_number c.args.name) (sym c.t-item.is) ∙ sym c.reads_number.ensures ∙ c.if-reads_number.true)
    ∙ sym (number_is_read c.args.p.now c.requires.form c.requires.faultless c.args.list c.requires.list c.args.name)

pub returns : goal.returns
returns c =
    none_found (reads_number c.args.name) (task_list c.args.p.now c.args.list) c.task_list-t-items.result.now
    c.task_list-t-items.ensures c.loop-t.t-index c.loop-t-test.false c.loop-t.invariant
    ∙ sym (number_is_read c.args.p.now c.requires.form c.requires.faultless c.args.list c.requires.list c.args.name)
