use Rattle.std.proofs.Common.{◌∙◌, List, None, ap, get_or}
use Rattle.std.proofs.lemmas.Option.{get_or_from_slice_get}
use Rattle.graph_compiler.specs.Shown.{shown_task}
use Rattle.graph_compiler.specs.declared.plan.Detail.{Detail}
use Rattle.run_task.proofs.Planned.{task_shown, task_there}
use Rattle.run_task.proofs.places.detail_at.Goals as goal

abbrev blank : Detail
blank = record { task = 0; level = 0; material = 0; patch = 0; combine = None }

pub returns : goal.returns
returns c =
    let job = c.args.job.now in
    let p = job.checked.now in
    let there = task_there p job.step job.plan.now job.shown c.args.task c.requires in
    let shown = task_shown p job.step job.plan.now job.shown c.args.task there.0 there.1 in
    (there.0, there.1, ap (λ (details : List Detail). get_or details c.args.task blank) c.as_slice.ensures ∙ get_or_from_slice_get job.plan.now.tasks c.args.task (shown_task there.0) blank shown)
