use Rattle.std.proofs.Common.{◌≡◌, ◌∙◌, length, get_or, ap, arith}
use Rattle.std.proofs.lemmas.List.Sums.{sum_by_more}
use Rattle.uts_geom.specs.Counting.{length-counted}
use Rattle.task_check.specs.Plan.{patches_of}
use Rattle.graph_compiler.proofs.layout.patches_on.Goals as goal

pub loop-level-preserved : goal.loop-level-preserved
loop-level-preserved c =
    let p = c.args.p.now in
    let levels = c.args.levels.now in
    let i = c.loop-level.level-index in
    let count : length (patches_of p (get_or levels i 0)) ≡ c.patch_count-total.result = ap length c.patch_count-total.ensures.patches ∙ length-counted 0 c.patch_count-total.result in
    record {
      total = omega (arith, c.loop-level.invariant.total, count, sum_by_more (λ level. length (patches_of p level)) levels i 0 c.loop-level-test.true);
      few = omega (arith, c.loop-level.invariant.few, c.patch_count-total.ensures.few);
    }
