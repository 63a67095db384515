use Rattle.std.proofs.Common.{◌∙◌, List, ap, sym, ◌≤◌, arith, length}
use Rattle.std.specs.List.{sum_by}
use Rattle.std.proofs.lemmas.List.{take_all}
use Rattle.problem_types.specs.declared.problem.Task.{Task}
use Rattle.problem_types.specs.Lists.{task_list}
use Rattle.task_check.specs.Sizes.{details_count}
use Rattle.task_check.proofs.Accepted.{few_tasks}
use Rattle.task_check.proofs.Details.{detailed_by_tasks}
use Rattle.task_check.proofs.plan.details.detailed_count.Goals as goal

pub returns-clause-count : goal.returns-clause-count
returns-clause-count c =
    let tasks : List Task = task_list c.args.p.now c.args.list in
    c.loop-t.invariant.count
    ∙ ap (λ (ts : List Task). sum_by (details_count c.args.p.now) ts) (take_all c.loop-t.t-index tasks (rw c.task_list-t-items.ensures at c.loop-t-test.false))
    ∙ sym (detailed_by_tasks c.args.p.now tasks)

pub returns-clause-few : goal.returns-clause-few
returns-clause-few c =
    let within : c.loop-t.t-index ≤ length (task_list c.args.p.now c.args.list) = rw c.task_list-t-items.ensures at c.loop-t.auto.t-index-end in
    omega (arith, within, few_tasks c.args.p.now c.requires.faultless c.args.list c.requires.list, c.loop-t.invariant.few)
