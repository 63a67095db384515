use Rattle.std.proofs.Common.{◌≡◌, ◌∙◌, length, ap, arith}
use Rattle.uts_geom.specs.Counting.{length-counted}
use Rattle.task_check.specs.Plan.{patches_of}
use Rattle.graph_compiler.proofs.OldPlacing.{below_more}
use Rattle.graph_compiler.proofs.old_places.patches_below.Goals as goal

pub loop-below-preserved : goal.loop-below-preserved
loop-below-preserved c =
    let p = c.args.p.now in
    let count : length (patches_of p c.loop-below.below) ≡ c.patch_count.result = ap length c.patch_count.ensures.patches ∙ length-counted 0 c.patch_count.result in
    record {
      total = omega (arith, c.loop-below.invariant.total, count, below_more p c.loop-below.below);
      few = omega (arith, c.loop-below.invariant.few, c.patch_count.ensures.few);
    }
