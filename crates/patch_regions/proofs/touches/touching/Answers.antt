use Rattle.std.proofs.Common.{◌∙◌, ap}
use Rattle.uts_geom.specs.declared.span.Span.{Span}
use Rattle.uts_geom.specs.Spans.{do_meet}
use Rattle.patch_regions.specs.Regions.{owned_span}
use Rattle.patch_regions.proofs.Touched.{touched_more}
use Rattle.patch_regions.proofs.touches.touching.Goals as goal

pub loop-patch-preserved : goal.loop-patch-preserved
loop-patch-preserved c =
    touched_more (λ k. do_meet (owned_span c.args.c c.args.level.now k) c.args.s) c.loop-patch.patch
    c.loop-patch.found.items c.put_if.new.found.items c.do_meet.result c.loop-patch.invariant
    (c.do_meet.ensures ∙ ap (λ (s : Span). do_meet s c.args.s) c.owned.ensures) c.in_ok-put_if.ensures
