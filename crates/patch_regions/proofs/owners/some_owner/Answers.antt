use Rattle.std.proofs.Common.{◌∙◌, ap, sym, below_more}
use Rattle.uts_geom.specs.declared.span.Span.{Span}
use Rattle.uts_geom.specs.Spans.{is_inside}
use Rattle.patch_regions.proofs.owners.some_owner.Goals as goal

pub loop-patch-preserved : goal.loop-patch-preserved
loop-patch-preserved c =
    below_more _ _ c.loop-patch.invariant
    (ap (λ (s : Span). is_inside s c.args.i) (sym c.owned.ensures) ∙ sym c.contains.ensures ∙ c.if-contains.false)
