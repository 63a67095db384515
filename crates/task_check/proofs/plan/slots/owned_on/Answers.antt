use Rattle.std.proofs.Common.{◌≡◌, ◌∙◌, ◌≤◌, ◌<◌, ap, arith, length}
use Rattle.uts_geom.specs.Spans.{indexes_of}
use Rattle.uts_geom.specs.declared.span.Span.{Span}
use Rattle.problem_types.specs.Levels.{KeepsGridLimits}
use Rattle.patch_regions.specs.Regions.{owned_span}
use Rattle.task_check.specs.Counts.{owned_count}
use Rattle.task_check.proofs.Accepted.{keeps_grid_limits}
use Rattle.task_check.proofs.Sums.{sum-counted_more}
use Rattle.patch_regions.specs.OnGrid.{owned_near}
use Rattle.task_check.proofs.Volumes.{owned_lies, few_indexes}
use Rattle.task_check.proofs.Written.{owned_at}
use Rattle.task_check.proofs.plan.slots.owned_on.Goals as goal

pub owned-requires-clause-limits : goal.owned-requires-clause-limits
owned-requires-clause-limits c =
    keeps_grid_limits c.args.p.now c.requires.form c.requires.faultless c.args.level c.level_at-l.result.now c.level_at-l.ensures

pub volume-total-requires : goal.volume-total-requires
volume-total-requires c =
    let limits : KeepsGridLimits c.level_at-l.result.now =
    keeps_grid_limits c.args.p.now c.requires.form c.requires.faultless c.args.level c.level_at-l.result.now c.level_at-l.ensures in
    let below : c.loop-patch.patch < length c.level_at-l.result.now.patches = omega arith in
    rw c.owned.ensures (owned_near c.args.c c.level_at-l.result.now c.loop-patch.patch limits below)

-- a patch owns so many numbers
here : (c : goal.After-volume-total) → (c.volume-total.result ≡ owned_count c.args.p.now c.args.c c.args.level c.loop-patch.patch) × (c.volume-total.result ≤ 68769820673)
here c =
    let l = c.level_at-l.result.now in
    let limits : KeepsGridLimits c.level_at-l.result.now =
    keeps_grid_limits c.args.p.now c.requires.form c.requires.faultless c.args.level c.level_at-l.result.now c.level_at-l.ensures in
    let below : c.loop-patch.patch < length c.level_at-l.result.now.patches = omega arith in
    let is : c.volume-total.result ≡ length (indexes_of (owned_span c.args.c c.level_at-l.result.now c.loop-patch.patch)) =
    c.volume-total.ensures ∙ ap (λ (s : Span). length (indexes_of s)) c.owned.ensures in (
      is ∙ owned_at c.args.p.now c.args.c c.args.level c.level_at-l.result.now c.loop-patch.patch c.level_at-l.ensures,
      omega (arith, is, few_indexes (owned_span c.args.c c.level_at-l.result.now c.loop-patch.patch) (owned_lies c.args.c c.level_at-l.result.now c.loop-patch.patch limits below)),
    )

few_here : (c : goal.After-volume-total) → c.loop-patch.patch < 1024
few_here c =
    let limits : KeepsGridLimits c.level_at-l.result.now =
    keeps_grid_limits c.args.p.now c.requires.form c.requires.faultless c.args.level c.level_at-l.result.now c.level_at-l.ensures in
    omega (arith, limits.few_patches)

pub overflow_add-total : goal.overflow_add-total
overflow_add-total c = let few = (here c).1 in omega (arith, few, few_here c, c.loop-patch.invariant.few)

pub loop-patch-preserved : goal.loop-patch-preserved
loop-patch-preserved c =
    let one = here c in
    let more = sum-counted_more (owned_count c.args.p.now c.args.c c.args.level) c.loop-patch.patch in record {
      sum = omega (arith, one.0, more, c.loop-patch.invariant.sum);
      few = omega (arith, one.1, c.loop-patch.invariant.few);
    }

pub returns-clause-few : goal.returns-clause-few
returns-clause-few c =
    let limits : KeepsGridLimits c.level_at-l.result.now =
    keeps_grid_limits c.args.p.now c.requires.form c.requires.faultless c.args.level c.level_at-l.result.now c.level_at-l.ensures in
    omega (arith, limits.few_patches, c.loop-patch.invariant.few)
