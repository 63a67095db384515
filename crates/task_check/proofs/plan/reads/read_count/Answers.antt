use Rattle.std.proofs.Common.{arith, ◌≡◌, ◌∙◌, List, sym, ap}
use Rattle.std.specs.List.{sum_by}
use Rattle.std.proofs.lemmas.List.{take_all}
use Rattle.problem_types.specs.Lists.{task_list}
use Rattle.problem_types.specs.declared.problem.Task.{Task}
use Rattle.task_check.specs.Counts.{read_count}
use Rattle.task_check.specs.Reading.{task_reads}
use Rattle.task_check.proofs.Reading.{read_count_is}
use Rattle.task_check.proofs.Totals.{given_up, total_above}
use Rattle.task_check.proofs.plan.reads.read_count.Goals as goal

pub returns-in_err-total : goal.returns-in_err-total
returns-in_err-total c =
    let tasks : List Task = task_list c.args.p.now c.args.list in
    let above = total_above (task_reads c.args.p.now) tasks c.task_list-t-items.result.now c.loop-t.t-index c.t-item.result 0 c.loop-t.total
    (task_reads c.args.p.now c.t-item.result) c.task_list-t-items.ensures c.loop-t-test.true (omega (arith, c.loop-t.invariant.count))
    (ap (task_reads c.args.p.now) c.t-item.is) c.in_err-total.ensures.total in
    given_up (read_count c.args.p.now tasks) c.from_residual.result c.from_residual.ensures
    (omega (arith, above, read_count_is c.args.p.now c.requires.form c.requires.faultless c.args.list c.requires.list))

pub returns : goal.returns
returns c =
    let tasks : List Task = task_list c.args.p.now c.args.list in
    let same : c.loop-t.total ≡ read_count c.args.p.now tasks =
    c.loop-t.invariant.count
    ∙ ap (λ (ts : List Task). sum_by (task_reads c.args.p.now) ts) (take_all c.loop-t.t-index tasks (rw c.task_list-t-items.ensures at c.loop-t-test.false))
    ∙ sym (read_count_is c.args.p.now c.requires.form c.requires.faultless c.args.list c.requires.list) in
    (same, omega (arith, same, c.loop-t.invariant.few))
