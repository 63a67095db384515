use Rattle.std.proofs.Common.{arith, ◌≡◌, ◌∙◌, length, ap}
use Rattle.uts_geom.specs.Spans.{indexes_of}
use Rattle.uts_geom.specs.declared.span.Span.{Span}
use Rattle.problem_types.specs.Levels.{KeepsGridLimits}
use Rattle.patch_regions.specs.Regions.{owned_span}
use Rattle.task_check.proofs.Accepted.{keeps_grid_limits}
use Rattle.patch_regions.specs.OnGrid.{owned_near}
use Rattle.task_check.proofs.Volumes.{owned_lies, few_indexes}
use Rattle.task_check.proofs.plan.old_slots.owned_count.Goals as goal

pub owned-requires-clause-limits : goal.owned-requires-clause-limits
owned-requires-clause-limits c =
    keeps_grid_limits c.args.p.now c.requires.form c.requires.faultless c.args.level c.level_at.result.now c.level_at.ensures

pub volume-requires : goal.volume-requires
volume-requires c =
    let limits : KeepsGridLimits c.level_at.result.now = keeps_grid_limits c.args.p.now c.requires.form c.requires.faultless c.args.level c.level_at.result.now c.level_at.ensures in
    rw c.owned.ensures (owned_near c.args.c c.level_at.result.now c.args.patch limits (c.requires.patch c.level_at.result.now c.level_at.ensures))

pub returns-clause-few : goal.returns-clause-few
returns-clause-few c =
    let limits : KeepsGridLimits c.level_at.result.now = keeps_grid_limits c.args.p.now c.requires.form c.requires.faultless c.args.level c.level_at.result.now c.level_at.ensures in
    let is : c.volume.result ≡ length (indexes_of (owned_span c.args.c c.level_at.result.now c.args.patch)) = c.volume.ensures ∙ ap (λ (s : Span). length (indexes_of s)) c.owned.ensures in
    omega (
      arith,
      is,
      few_indexes (owned_span c.args.c c.level_at.result.now c.args.patch)
          (owned_lies c.args.c c.level_at.result.now c.args.patch limits (c.requires.patch c.level_at.result.now c.level_at.ensures)),
    )
