use Rattle.std.proofs.Common.{◌<◌, length}
use Rattle.task_check.specs.OldSlots.{wants_old}
use Rattle.task_check.specs.Plan.{patches_of}
use Rattle.task_check.proofs.Marks.{marked_more}
use Rattle.task_check.proofs.Totals.{level_there, sound_at}
use Rattle.task_check.proofs.plan.old_reads.mark_from.Goals as goal

pub mark_wanted-requires-clause-few : goal.mark_wanted-requires-clause-few
mark_wanted-requires-clause-few c =
    let below : c.loop-r.r-index < length c.args.t.now.requirements = rw c.as_slice-r-items.ensures at c.loop-r-test.true in
    rw c.as_slice-r-items.ensures
    (sound_at c.args.p.now c.requires.form c.requires.faultless c.args.t.now c.requires.task c.args.from c.requires.from c.loop-r.r-index _ below).few

pub mark_wanted-requires-clause-from : goal.mark_wanted-requires-clause-from
mark_wanted-requires-clause-from c = level_there c.args.p.now c.requires.form c.requires.faultless c.args.t.now c.requires.task c.args.from c.requires.from

pub mark_wanted-requires-clause-wanted : goal.mark_wanted-requires-clause-wanted
mark_wanted-requires-clause-wanted c =
    let below : c.loop-r.r-index < length c.args.t.now.requirements = rw c.as_slice-r-items.ensures at c.loop-r-test.true in
    rw c.as_slice-r-items.ensures
    (sound_at c.args.p.now c.requires.form c.requires.faultless c.args.t.now c.requires.task c.args.from c.requires.from c.loop-r.r-index _ below).wanted

pub loop-r-preserved : goal.loop-r-preserved
loop-r-preserved c =
    marked_more (λ patch. wants_old c.args.p.now c.args.t.now c.args.name c.args.level patch c.args.from) c.args.marks.now
    (length (patches_of c.args.p.now c.args.level)) c.args.t.now.requirements c.as_slice-r-items.result.now c.as_slice-r-items.ensures c.loop-r.r-index
    c.loop-r.marks c.mark_wanted.new.marks _ c.loop-r-test.true c.loop-r.invariant (c.mark_wanted.ensures c.args.t.now)
