use Rattle.std.proofs.Common.{◌≡◌, ◌<◌, ◌∙◌, ℕ, [], ◌∷◌, length, Some, ap, sym, subst, arith}
use Rattle.std.specs.Prelude.{slice_get}
use Rattle.uts_geom.specs.Spans.{IsNearSpan}
use Rattle.uts_geom.specs.declared.centring.Centring.{Centring}
use Rattle.uts_geom.specs.declared.span.Span.{Span}
use Rattle.problem_types.specs.Lists.{centring_of}
use Rattle.problem_types.specs.Regions.{spaces_of}
use Rattle.problem_types.specs.declared.problem.Problem.{Problem}
use Rattle.task_rules.specs.Lines.{wanted_level, wanted_name}
use Rattle.task_check.specs.Bounds.{IsBoundedLevel}
use Rattle.run_task.proofs.FewIndexes.{few_in_space}
use Rattle.run_task.proofs.SitesPlaced.{is_placed, laid_at, require_bounded, space_is_near, space_of_level, stands_here, wanted_there, window_here, window_is_near}
use Rattle.run_task.proofs.TasksAtSites.{level_bounded}
use Rattle.run_task.proofs.parts.window_for.Goals as goal
use Rattle.run_task.proofs.parts.window_for.Goals.{After-level_at-wanted}

pub wanted_window-span-requires-clause-few : goal.wanted_window-span-requires-clause-few
wanted_window-span-requires-clause-few c =
    (require_bounded c.accepted_problems_are_bounded.ensures c.args.job.now c.args.site c.args.task.now c.requires.site c.args.require c.requires.required).few

pub wanted_window-span-requires-clause-patch : goal.wanted_window-span-requires-clause-patch
wanted_window-span-requires-clause-patch c = λ l at.
    (is_placed c.accepted_problems_are_bounded.ensures c.args.job.now c.args.site c.args.task.now c.requires.site).patch_there l
    (stands_here c.problem-p.result.now c.args.job.now.checked.now c.from-level.result c.args.site.level l c.problem-p.ensures.problem c.from-level.ensures at)

pub wanted_level-requires : goal.wanted_level-requires
wanted_level-requires c =
    let p = c.args.job.now.checked.now in
    let there = (is_placed c.accepted_problems_are_bounded.ensures c.args.job.now c.args.site c.args.task.now c.requires.site).level_there in
    let few = (c.accepted_problems_are_bounded.ensures p c.problem-p.ensures.form c.problem-p.ensures.accepted).few_levels in
    omega (arith, there, few, c.from-level.ensures)

pub level_at-wanted-requires : goal.level_at-wanted-requires
level_at-wanted-requires c =
    let p = c.args.job.now.checked.now in
    let what = c.args.require.what in
    let wanted : c.wanted_level.result ≡ wanted_level what c.args.site.level = c.wanted_level.ensures ∙ ap (wanted_level what) c.from-level.ensures in
    subst (λ (q : Problem). c.wanted_level.result < length q.levels) (sym c.problem-p.ensures.problem)
    (subst (λ (n : ℕ). n < length p.levels) (sym wanted)
    (wanted_there c.accepted_problems_are_bounded.ensures c.args.job.now c.args.site c.args.task.now c.requires.site c.args.require c.requires.required))

-- the level that is wanted, at its number
wanted_at : (c : After-level_at-wanted) → slice_get c.args.job.now.checked.now.levels (wanted_level c.args.require.what c.args.site.level) ≡ Some c.level_at-wanted.result.now
wanted_at c =
    let what = c.args.require.what in
    let wanted : c.wanted_level.result ≡ wanted_level what c.args.site.level = c.wanted_level.ensures ∙ ap (wanted_level what) c.from-level.ensures in
    stands_here c.problem-p.result.now c.args.job.now.checked.now c.wanted_level.result (wanted_level what c.args.site.level) c.level_at-wanted.result.now c.problem-p.ensures.problem wanted c.level_at-wanted.ensures

-- it is within the limits
wanted_bounded : (c : After-level_at-wanted) → IsBoundedLevel c.args.job.now.checked.now (wanted_level c.args.require.what c.args.site.level) c.level_at-wanted.result.now
wanted_bounded c =
    let site = c.args.site in
    level_bounded c.accepted_problems_are_bounded.ensures c.args.job.now.checked.now site.step site.task c.args.task.now c.requires.site.task
    (wanted_level c.args.require.what site.level) c.level_at-wanted.result.now (wanted_at c)

pub index_space-space-requires : goal.index_space-space-requires
index_space-space-requires c = (wanted_bounded (goal.at.index_space-space-requires c).After-level_at-wanted).limits

pub make-requires-clause-span_near : goal.make-requires-clause-span_near
make-requires-clause-span_near c =
    let p = c.args.job.now.checked.now in
    let site = c.args.site in
    let t = c.args.task.now in
    let r = c.args.require in
    let laid = laid_at c.accepted_problems_are_bounded.ensures c.args.job.now site t c.requires.site in
    let is =
    window_here c.problem-p.result.now p t r c.from-level.result site.level site.patch c.wanted_window-span.result c.problem-p.ensures.problem c.from-level.ensures
    c.wanted_window-span.ensures laid.0 laid.1.stands in
    subst IsNearSpan (sym is)
    (window_is_near c.accepted_problems_are_bounded.ensures c.args.job.now site t c.requires.site r c.requires.required laid.0 laid.1.stands)

pub make-requires-clause-space_near : goal.make-requires-clause-space_near
make-requires-clause-space_near c =
    let bounded = wanted_bounded (goal.at.make-requires-clause-space_near c).After-level_at-wanted in
    space_is_near c.args.job.now.checked.now (wanted_level c.args.require.what c.args.site.level) c.level_at-wanted.result.now bounded c.centring_of.result
    c.index_space-space.result c.index_space-space.ensures

pub make-requires-clause-few : goal.make-requires-clause-few
make-requires-clause-few c =
    let bounded = wanted_bounded (goal.at.make-requires-clause-few c).After-level_at-wanted in
    few_in_space c.args.job.now.checked.now (wanted_level c.args.require.what c.args.site.level) c.level_at-wanted.result.now bounded c.centring_of.result
    c.wanted_window-span.result c.index_space-space.result c.index_space-space.ensures

pub returns-in-Ok-clause-span : goal.returns-in-Ok-clause-span
returns-in-Ok-clause-span c = λ l at.
    let site = c.args.site in
    c.in-Ok.ensures.span
    ∙ window_here c.problem-p.result.now c.args.job.now.checked.now c.args.task.now c.args.require c.from-level.result site.level site.patch
    c.wanted_window-span.result c.problem-p.ensures.problem c.from-level.ensures c.wanted_window-span.ensures l at

pub returns-in-Ok-clause-space : goal.returns-in-Ok-clause-space
returns-in-Ok-clause-space c =
    let p = c.args.job.now.checked.now in
    let what = c.args.require.what in
    let level = wanted_level what c.args.site.level in
    let window = c.in-Ok.window in
    let at = wanted_at (goal.at.returns-in-Ok-clause-space c).After-level_at-wanted in
    let centring : c.centring_of.result ≡ centring_of p (wanted_name what) =
    c.centring_of.ensures ∙ ap (λ (q : Problem). centring_of q c.wanted_name-name.result) c.problem-p.ensures.problem ∙ ap (centring_of p) c.wanted_name-name.ensures in
    subst (λ (k : Centring). spaces_of p level k ≡ window.space ∷ []) centring
    (space_of_level p level c.level_at-wanted.result.now c.centring_of.result window.space at (c.index_space-space.ensures ∙ ap (λ (s : Span). s ∷ []) (sym c.in-Ok.ensures.space)))
