use Rattle.std.proofs.Common.{◌∙◌, [], length, ap, sym}
use Rattle.problem_types.specs.Lists.{task_list}
use Rattle.task_check.specs.OldSlots.{reads_variable}
use Rattle.task_check.specs.Plan.{patches_of}
use Rattle.task_check.proofs.Marks.{marked_all, marked_alike, marked_more, unmarked}
use Rattle.task_check.proofs.OldReads.{variable_is_read}
use Rattle.task_check.proofs.plan.old_reads.read_patches.Goals as goal

pub loop-t-init : goal.loop-t-init
loop-t-init c patch below = unmarked 1024 patch

pub loop-t-preserved : goal.loop-t-preserved
loop-t-preserved c =
    marked_more (reads_variable c.args.p.now c.args.name c.args.level c.args.material) [] (length (patches_of c.args.p.now c.args.level))
    (task_list c.args.p.now c.args.list) c.task_list-t-items.result.now c.task_list-t-items.ensures c.loop-t.t-index c.loop-t.marks c.mark_read.new.marks c.t-item.result
    c.loop-t-test.true c.loop-t.invariant
    (marked_alike c.loop-t.marks c.mark_read.new.marks (length (patches_of c.args.p.now c.args.level)) _ _
    (λ patch below. ap (reads_variable c.args.p.now c.args.name c.args.level c.args.material patch) c.t-item.is) c.mark_read.ensures)

pub returns : goal.returns
returns c = λ patch below.
    marked_all (reads_variable c.args.p.now c.args.name c.args.level c.args.material) [] (length (patches_of c.args.p.now c.args.level))
    (task_list c.args.p.now c.args.list) c.task_list-t-items.result.now c.task_list-t-items.ensures c.loop-t.t-index c.loop-t.marks c.loop-t-test.false c.loop-t.invariant patch below
    ∙ sym (variable_is_read c.args.p.now (task_list c.args.p.now c.args.list) c.args.name c.args.level c.args.material patch)
