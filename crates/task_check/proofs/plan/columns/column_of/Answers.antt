use Rattle.std.proofs.Common.{arith, ◌∙◌, ap, rules, FitsSigned, w64, length-set}
use Rattle.std.proofs.lemmas.Int.{to_z-of_z}
use Rattle.uts_geom.specs.Spans.{coordinate}
use Rattle.uts_geom.specs.declared.span.Span.{Span}
use Rattle.patch_regions.specs.Regions.{owned_span}
use Rattle.task_check.proofs.Columns.{filled}
use Rattle.task_check.proofs.plan.columns.column_of.Goals as goal

pub loop-patch-preserved : goal.loop-patch-preserved
loop-patch-preserved c =
    let fits_low : FitsSigned w64 c.coordinate.result = search rules in
    let fits_high : FitsSigned w64 c.coordinate-in-loop-patch.result = search rules in
    record {
      low_long = rw length-set c.loop-patch.invariant.low_long;
      high_long = rw length-set c.loop-patch.invariant.high_long;
      bounds =
          filled (λ patch. coordinate c.args.axis (owned_span c.args.c c.args.l.now patch).lo) (λ patch. coordinate c.args.axis (owned_span c.args.c c.args.l.now patch).hi)
          c.loop-patch.column c.loop-patch.patch c.bound.result c.bound-in-loop-patch.result (omega arith) (omega arith) c.loop-patch.invariant.bounds
          ((simp to_z-of_z at c.bound.ensures) ∙ c.coordinate.ensures ∙ ap (λ (s : Span). coordinate c.args.axis s.lo) c.owned-span.ensures)
          ((simp to_z-of_z at c.bound-in-loop-patch.ensures) ∙ c.coordinate-in-loop-patch.ensures ∙ ap (λ (s : Span). coordinate c.args.axis s.hi) c.owned-span.ensures);
    }
