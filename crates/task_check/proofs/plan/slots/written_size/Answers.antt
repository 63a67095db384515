use Rattle.std.proofs.Common.{◌∙◌, ◌<◌, List, ap, sym, arith, length, ◌≤◌}
use Rattle.std.specs.List.{sum_by}
use Rattle.std.proofs.lemmas.List.{take_all}
use Rattle.problem_types.specs.declared.problem.Task.{Task}
use Rattle.problem_types.specs.Lists.{task_list}
use Rattle.task_check.specs.Sizes.{written_total}
use Rattle.task_check.proofs.Accepted.{few_tasks}
use Rattle.task_check.proofs.Written.{sizes_by_tasks}
use Rattle.task_check.proofs.plan.slots.written_size.Goals as goal

pub returns-clause-sum : goal.returns-clause-sum
returns-clause-sum c =
    let tasks : List Task = task_list c.args.p.now c.args.list in
    c.loop-t.invariant.sum
    ∙ ap (λ (ts : List Task). sum_by (written_total c.args.p.now) ts) (take_all c.loop-t.t-index tasks (rw c.task_list-t-items.ensures at c.loop-t-test.false))
    ∙ sym (sizes_by_tasks c.args.p.now tasks)

pub overflow_add-total : goal.overflow_add-total
overflow_add-total c =
    let below : c.loop-t.t-index < length (task_list c.args.p.now c.args.list) = rw c.task_list-t-items.ensures at c.loop-t-test.true in
    omega (arith, below, few_tasks c.args.p.now c.requires.faultless c.args.list c.requires.list, c.loop-t.invariant.few, c.written_total-total.ensures.few)

pub returns-clause-few : goal.returns-clause-few
returns-clause-few c =
    let within : c.loop-t.t-index ≤ length (task_list c.args.p.now c.args.list) = rw c.task_list-t-items.ensures at c.loop-t.auto.t-index-end in
    omega (arith, within, few_tasks c.args.p.now c.requires.faultless c.args.list c.requires.list, c.loop-t.invariant.few)
