use Rattle.std.proofs.Common.{◌∙◌, ap, sym, subst}
use Rattle.problem_types.specs.Lists.{task_list}
use Rattle.graph_compiler.specs.Slots.{IsNumberOf, IsRunOn}
use Rattle.graph_compiler.specs.declared.plan.Detail.{Detail}
use Rattle.run_task.specs.declared.work.Site.{Site}
use Rattle.run_task.proofs.DetailsShown.{shown_combining, shown_on_patch}
use Rattle.run_task.proofs.beginning.begin.Goals as goal

pub begin_combining-requires : goal.begin_combining-requires
begin_combining-requires c =
    let p = c.args.job.now.checked.now in
    let tasks = task_list p c.args.job.now.step in
    let known = c.detail_at-detail.ensures in
    subst (λ (shown : Detail). IsNumberOf tasks shown.task c.in-Some.line) (sym known.2)
    (shown_combining p tasks known.0 c.in-Some.line (c.details_are_of_lists.ensures p tasks c.args.task known.0 known.1)
    (ap (λ (shown : Detail). shown.combine) (sym known.2) ∙ c.in-Some.is))

pub begin_on_patch-requires-clause-runs : goal.begin_on_patch-requires-clause-runs
begin_on_patch-requires-clause-runs c =
    let p = c.args.job.now.checked.now in
    let tasks = task_list p c.args.job.now.step in
    let known = c.detail_at-detail.ensures in
    subst (λ (site : Site). IsRunOn p tasks site.task site.level site.material site.patch) (sym c.site_of.ensures)
    (subst (λ (shown : Detail). IsRunOn p tasks shown.task shown.level shown.material shown.patch) (sym known.2)
    (shown_on_patch p tasks known.0 (c.details_are_of_lists.ensures p tasks c.args.task known.0 known.1)
    (ap (λ (shown : Detail). shown.combine) (sym known.2) ∙ c.in-None.is)))
