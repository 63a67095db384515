use Rattle.std.proofs.Common.{◌≡◌, ◌<◌, ◌∙◌, ℕ, length, ap, arith, subst}
use Rattle.uts_geom.specs.declared.span.Span.{Span}
use Rattle.uts_geom.specs.Spans.{do_meet}
use Rattle.patch_regions.specs.Regions.{owned_span}
use Rattle.task_check.specs.Marks.{AreMarkedToo}
use Rattle.task_check.proofs.Marks.{none_marked, one_marked}
use Rattle.task_check.proofs.plan.old_reads.mark_met.Goals as goal

pub loop-patch-init : goal.loop-patch-init
loop-patch-init c = none_marked c.args.marks.now (λ patch. do_meet (owned_span c.args.c c.args.l.now patch) c.args.window)

pub loop-patch-preserved : goal.loop-patch-preserved
loop-patch-preserved c =
    let room : c.loop-patch.patch < length c.loop-patch.marks =
    omega (arith, c.loop-patch.auto.marks, c.requires.room, c.loop-patch-test.true, c.patch_count-patch-end.ensures.few) in
    one_marked c.args.marks.now c.loop-patch.marks c.loop-patch.patch (λ patch. do_meet (owned_span c.args.c c.args.l.now patch) c.args.window) c.do_meet-met.result room
    c.loop-patch.invariant (c.do_meet-met.ensures ∙ ap (λ (s : Span). do_meet s c.args.window) c.owned.ensures)

pub returns : goal.returns
returns c =
    let end : c.loop-patch.patch ≡ length c.args.l.now.patches = omega (arith, c.patch_count-patch-end.ensures.count) in
    subst (λ (n : ℕ). AreMarkedToo c.args.marks.now c.loop-patch.marks n (λ patch. do_meet (owned_span c.args.c c.args.l.now patch) c.args.window)) end
    c.loop-patch.invariant.marked
