use Rattle.std.proofs.Common.{◌≡◌, ◌∙◌, Some, ap, sym, subst}
use Rattle.std.specs.Prelude.{[], slice_get}
use Rattle.problem_types.specs.declared.problem.Task.{Task}
use Rattle.problem_types.specs.declared.problem.Write.{Write}
use Rattle.slot_contents.specs.Laws.{IsTaskOf}
use Rattle.run_task.specs.Gathered.{IsCombiningWork}
use Rattle.run_task.proofs.beginning.begin_combining.Goals as goal

pub returns : goal.returns
returns c =
    let p = c.args.job.now.checked.now in
    let step = c.args.job.now.step in
    let t = c.requires.t in
    let w = c.requires.w in
    let is : IsTaskOf p step c.args.task t = record { form = c.problem-p.ensures.form; accepted = c.problem-p.ensures.accepted; stands = c.requires.task_at } in
    let same_task : t ≡ c.task_at.result.now = (let both : Some t ≡ Some c.task_at.result.now = sym c.requires.task_at ∙ c.task_at.ensures in cc) in
    let same_line : c.line_at-write.result.now ≡ w =
    (let both : Some c.line_at-write.result.now ≡ Some w =
    sym c.line_at-write.ensures ∙ ap (λ (u : Task). slice_get u.writes c.args.line) (sym same_task) ∙ c.requires.line_at in cc) in
    (t, w, is, c.requires.line_at, c.requires.of_kind, subst (λ (v : Write). IsCombiningWork p step v [] c.in_ok-work.work) same_line c.in_ok-work.ensures)
