use Rattle.std.proofs.Common.{◌≡◌, ◌∙◌, ◌<◌, ◌++◌, ℕ, List, take, drop, length, ap, refl, sym, subst}
use Rattle.std.specs.Prelude.{slice_get}
use Rattle.std.proofs.lemmas.List.{take_at}
use Rattle.std.proofs.lemmas.Option.{same_Some, slice_get_within}
use Rattle.problem_types.specs.Lists.{task_list}
use Rattle.problem_types.specs.declared.problem.Task.{Task}
use Rattle.task_check.specs.Plan.{OnPatch}
use Rattle.graph_types.specs.Graph.{reads_of, writes_of}
use Rattle.field_box.specs.declared.value.Value.{Value}
use Rattle.slot_contents.specs.Contents.{contents_of}
use Rattle.slot_contents.specs.Laws.{IsTaskOf}
use Rattle.slot_contents.specs.Values.{Fits}
use Rattle.unified_scheduler.specs.Fitting.{AreFitting}
use Rattle.run_task.specs.Gathered.{HasRoom, site_of}
use Rattle.run_task.specs.Seen.{SeesAll}
use Rattle.run_task.specs.declared.work.Site.{Site}
use Rattle.run_task.proofs.Planned.{task_within}
use Rattle.run_task.proofs.Ran.{lines_fit, on_patch, sees_all, site_found}
use Rattle.run_task.proofs.running.run_on_patch.Goals as goal

pub detail_at-requires : goal.detail_at-requires
detail_at-requires c =
    let job = c.args.job.now in
    let has = on_patch job.checked.now job.step c.args.task (length (reads_of job.plan.now.graph c.args.task)) c.args.gathered c.requires.gathered in
    task_within job.checked.now job.step job.plan.now job.shown c.args.task (OnPatch has.task has.level has.material has.patch) has.stands

pub task_at-requires : goal.task_at-requires
task_at-requires c =
    let job = c.args.job.now in
    let has = on_patch job.checked.now job.step c.args.task (length (reads_of job.plan.now.graph c.args.task)) c.args.gathered c.requires.gathered in
    let site = site_found job.checked.now job.step c.args.task has.stands c.detail_at.ensures c.site_of-site.ensures in
    subst (λ (s : Site). s.task < length (task_list job.checked.now job.step)) (sym site) (slice_get_within (task_list job.checked.now job.step) has.task has.t has.is.stands)

pub run_lines-requires-clause-sees : goal.run_lines-requires-clause-sees
run_lines-requires-clause-sees c =
    let job = c.args.job.now in
    let has = on_patch job.checked.now job.step c.args.task (length (reads_of job.plan.now.graph c.args.task)) c.args.gathered c.requires.gathered in
    let site = site_found job.checked.now job.step c.args.task has.stands c.detail_at.ensures c.site_of-site.ensures in
    let same : has.t ≡ c.task_at.result.now = same_Some has.t c.task_at.result.now (sym has.is.stands ∙ ap (λ (s : Site). slice_get (task_list job.checked.now job.step) s.task) (sym site) ∙ c.task_at.ensures) in
    subst (λ (s : Site). SeesAll job.checked.now c.task_at.result.now s c.args.gathered.windows) (sym site)
    (subst (λ (t : Task). SeesAll job.checked.now t (site_of job.step has.task has.level has.material has.patch) c.args.gathered.windows) same
    (sees_all job.checked.now job.step job.plan.now job.shown c.args.task c.args.gathered has))

pub run_lines-requires-clause-room : goal.run_lines-requires-clause-room
run_lines-requires-clause-room c =
    let job = c.args.job.now in
    let p = job.checked.now in
    let has = on_patch p job.step c.args.task (length (reads_of job.plan.now.graph c.args.task)) c.args.gathered c.requires.gathered in
    let site = site_found job.checked.now job.step c.args.task has.stands c.detail_at.ensures c.site_of-site.ensures in
    let same : has.t ≡ c.task_at.result.now = same_Some has.t c.task_at.result.now (sym has.is.stands ∙ ap (λ (s : Site). slice_get (task_list p job.step) s.task) (sym site) ∙ c.task_at.ensures) in
    subst (λ (s : Site). HasRoom p c.task_at.result.now s c.deref_mut.result.now (length c.deref_mut-2.result.now)) (sym site)
    (subst (λ (t : Task). HasRoom p t (site_of job.step has.task has.level has.material has.patch) c.deref_mut.result.now (length c.deref_mut-2.result.now)) same
    (subst (λ (values : List Value). HasRoom p has.t (site_of job.step has.task has.level has.material has.patch) values (length c.deref_mut-2.result.now)) (sym c.deref_mut.ensures.value)
    (subst (λ (n : ℕ). HasRoom p has.t (site_of job.step has.task has.level has.material has.patch) c.args.gathered.outputs.items n) (ap length (sym c.deref_mut-2.ensures.value)) has.made.room)))

pub returns : goal.returns
returns c =
    let job = c.args.job.now in
    let p = job.checked.now in
    let has = on_patch p job.step c.args.task (length (reads_of job.plan.now.graph c.args.task)) c.args.gathered c.requires.gathered in
    let site = site_found job.checked.now job.step c.args.task has.stands c.detail_at.ensures c.site_of-site.ensures in
    let same : has.t ≡ c.task_at.result.now = same_Some has.t c.task_at.result.now (sym has.is.stands ∙ ap (λ (s : Site). slice_get (task_list p job.step) s.task) (sym site) ∙ c.task_at.ensures) in
    let fit = lines_fit p job.step job.plan.now job.shown c.args.task c.writes_stand_in_order.ensures has.task has.level has.material has.patch has.stands
    (record { checked = job.checked; task = c.task_at.result; site = c.site_of-site.result; windows = _ }) refl site
    (subst (IsTaskOf p job.step has.task) same has.is) c.run_lines.new.outputs c.run_lines.ensures in
    let old = c.args.gathered.outputs in
    let now = c.run_lines.new.outputs in
    let many : length now ≡ old.len = c.run_lines.auto.outputs ∙ c.deref_mut.ensures.len in
    let whole : take old.len (now ++ drop (length now) old.items) ≡ now = take_at now (drop (length now) old.items) old.len many in
    subst (AreFitting Fits (contents_of p job.step) (writes_of job.plan.now.graph c.args.task)) (sym whole) fit
