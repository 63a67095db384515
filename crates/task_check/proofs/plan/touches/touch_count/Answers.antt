use Rattle.std.proofs.Common.{arith, sym, ◌∙◌, ap, ◌≡◌, ℕ, length}
use Rattle.std.specs.Prelude.{slice_get}
use Rattle.std.specs.List.{sum_by}
use Rattle.uts_geom.specs.Spans.{counted}
use Rattle.uts_geom.specs.declared.span.Span.{Span}
use Rattle.task_check.specs.Reaches.{touched_count, reach_window}
use Rattle.task_check.proofs.Accepted.{keeps_grid_limits, few_levels}
use Rattle.task_check.proofs.Goodness.{is_good}
use Rattle.task_check.proofs.Touching.{sum_more, touch_count_is}
use Rattle.task_check.proofs.plan.touches.touch_count.Goals as goal

pub reached_level-requires : goal.reached_level-requires
reached_level-requires c = omega (arith, few_levels c.args.p.now c.requires.faultless, c.requires.level)

pub patch_count-patch-end-requires : goal.patch_count-patch-end-requires
patch_count-patch-end-requires c =
    (keeps_grid_limits c.args.p.now c.requires.form c.requires.faultless c.args.level c.level_at.result.now c.level_at.ensures).few_patches

pub of-owned-requires-clause-limits : goal.of-owned-requires-clause-limits
of-owned-requires-clause-limits c =
    keeps_grid_limits c.args.p.now c.requires.form c.requires.faultless c.reached_level.result c.level_at-wanted.result.now c.level_at-wanted.ensures

pub of-owned-requires-clause-proper : goal.of-owned-requires-clause-proper
of-owned-requires-clause-proper c =
    (is_good c.args.p.now c.requires.form c.requires.faultless c.reached_level.result c.level_at-wanted.result.now c.level_at-wanted.ensures).tiled.patches

pub loop-patch-preserved : goal.loop-patch-preserved
loop-patch-preserved c = record {
  count = λ here wanted at owned.
      sum_more (λ patch. touched_count c.args.c wanted (reach_window c.args.p.now c.args.reach c.args.c c.args.level here patch))
      c.loop-patch.patch c.loop-patch.sum c.touched-sum.result (c.loop-patch.invariant.count here wanted at owned)
      (c.touched-sum.ensures.count c.args.c wanted owned
      ∙ ap (λ (w : Span). touched_count c.args.c wanted w) (c.reach_window.ensures here at));
  few = omega (arith, c.touched-sum.ensures.few, c.loop-patch.invariant.few);
}

pub returns-clause-count : goal.returns-clause-count
returns-clause-count c =
    let end : c.loop-patch.patch ≡ length c.level_at.result.now.patches = omega (arith, c.patch_count-patch-end.ensures.count) in
    c.loop-patch.invariant.count c.level_at.result.now c.level_at-wanted.result.now c.level_at.ensures c.of-owned.ensures.owned
    ∙ ap (λ (n : ℕ). sum_by (λ patch.
    touched_count c.args.c c.level_at-wanted.result.now (reach_window c.args.p.now c.args.reach c.args.c c.args.level c.level_at.result.now patch)) (counted 0 n)) end
    ∙ sym (touch_count_is c.args.p.now c.args.level c.args.reach c.args.c c.level_at.result.now c.level_at-wanted.result.now c.level_at.ensures
    (ap (slice_get c.args.p.now.levels) (sym c.reached_level.ensures) ∙ c.level_at-wanted.ensures))
