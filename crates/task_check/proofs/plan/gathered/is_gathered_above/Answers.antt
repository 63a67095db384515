use Rattle.std.proofs.Common.{◌≡◌, ◌∙◌, ◌<◌, List, true, false, ap, sym, get_or, length}
use Rattle.std.specs.List.{list_any}
use Rattle.std.proofs.lemmas.List.{take_all}
use Rattle.std.proofs.lemmas.List.Folds.{list_any_at}
use Rattle.problem_types.specs.Lists.{task_list}
use Rattle.problem_types.specs.declared.problem.Task.{Task}
use Rattle.task_check.specs.Sizes.{gathers_above}
use Rattle.task_check.proofs.Gathered.{gathered_above}
use Rattle.task_check.proofs.plan.gathered.is_gathered_above.Goals as goal

pub returns-then-gathers_above : goal.returns-then-gathers_above
returns-then-gathers_above c =
    let p = c.args.p.now in
    let tasks : List Task = task_list p c.args.list in
    let below : c.loop-t.t-index < length tasks = rw c.task_list-t-items.ensures at c.loop-t-test.true in
    let item : c.t-item.result ≡ get_or tasks c.loop-t.t-index c.t-item.result = rw c.task_list-t-items.ensures at c.t-item.is in
    let passes : gathers_above p c.args.limit (get_or tasks c.loop-t.t-index c.t-item.result) ≡ true =
    sym (ap (λ (t : Task). gathers_above p c.args.limit t) item) ∙ sym c.gathers_above.ensures ∙ c.if-gathers_above.true in
    gathered_above p c.requires.form c.args.list c.args.limit c.requires.list true
    (sym (list_any_at (gathers_above p c.args.limit) tasks c.loop-t.t-index c.t-item.result below passes))

pub returns : goal.returns
returns c =
    let p = c.args.p.now in
    let tasks : List Task = task_list p c.args.list in
    gathered_above p c.requires.form c.args.list c.args.limit c.requires.list false
    (sym c.loop-t.invariant
    ∙ ap (λ (ts : List Task). list_any (gathers_above p c.args.limit) ts) (take_all c.loop-t.t-index tasks (rw c.task_list-t-items.ensures at c.loop-t-test.false)))
