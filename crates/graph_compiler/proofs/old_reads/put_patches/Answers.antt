use Rattle.std.proofs.Common.{◌∙◌, ◌<◌, ℕ, length, ap, sym, subst, arith}
use Rattle.uts_geom.specs.Counting.{length-counted}
use Rattle.problem_types.specs.Lists.{task_list}
use Rattle.task_check.specs.Plan.{Old, is_read, patches_of}
use Rattle.graph_compiler.proofs.PuttingOld.{put_number}
use Rattle.graph_compiler.proofs.old_reads.put_patches.Goals as goal

pub loop-patch-preserved : goal.loop-patch-preserved
loop-patch-preserved c =
    let p = c.args.p.now in
    let tasks = task_list p c.args.list in
    let patch = c.loop-patch.patch in
    let below : patch < length (patches_of p c.args.level) = omega (arith, c.loop-patch-test.true, ap length c.patch_count-patch-end.ensures.patches ∙ length-counted 0 c.patch_count-patch-end.result) in
    put_number p tasks (Old c.args.name c.args.level c.args.material) patch c.old_slot-slot.result _ c.args.marks.now.items c.loop-patch.marks.items c.put_slot.new.marks.items c.args.slots.now
    c.loop-patch.slots c.put_slot.new.slots c.loop-patch.invariant c.old_slot-slot.ensures (c.read_patches-read.ensures patch (subst (λ (level : ℕ). patch < length (patches_of p level)) (sym c.from.ensures) below)
    ∙ ap (λ (l : ℕ). is_read p tasks (Old c.args.name l c.from-2.result patch)) c.from.ensures ∙ ap (λ (m : ℕ). is_read p tasks (Old c.args.name c.args.level m patch)) c.from-2.ensures) c.in_ok-put_slot.ensures.marks c.in_ok-put_slot.ensures.slots
