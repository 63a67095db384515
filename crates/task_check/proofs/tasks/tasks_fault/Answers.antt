use Rattle.std.proofs.Common.{◌∙◌, sym, ap, arith, subst, slice_get, length}
use Rattle.problem_types.specs.Form.{task_lines}
use Rattle.problem_types.specs.Lists.{task_list}
use Rattle.task_check.specs.First.{IsFirst}
use Rattle.task_check.specs.Parts.{OfTask}
use Rattle.task_check.proofs.Walk.{none_more, none_within, first_within}
use Rattle.task_check.proofs.Order.{tasks_rise, task_on}
use Rattle.task_check.proofs.tasks.tasks_fault.Goals as goal

pub task_fault-requires-clause-at : goal.task_fault-requires-clause-at
task_fault-requires-clause-at c = ap (λ xs. slice_get xs c.loop-place.place) (sym c.task_list-tasks.ensures) ∙ c.item.ensures

pub returns-in-Some : goal.returns-in-Some
returns-in-Some c = first_within task_lines (task_list c.args.problem.now c.args.list) (OfTask c.args.problem.now c.args.list)
    (task_on c.args.problem.now c.args.list) (tasks_rise c.args.problem.now c.requires.form c.args.list)
    c.loop-place.place c.item.result.now (ap (λ xs. slice_get xs c.loop-place.place) (sym c.task_list-tasks.ensures) ∙ c.item.ensures) c.loop-place.invariant c.in-Some.fault
    (subst (IsFirst _) c.in-Some.is c.task_fault.ensures)

pub loop-place-preserved : goal.loop-place-preserved
loop-place-preserved c = none_more (task_list c.args.problem.now c.args.list) (OfTask c.args.problem.now c.args.list)
    c.loop-place.place c.item.result.now (ap (λ xs. slice_get xs c.loop-place.place) (sym c.task_list-tasks.ensures) ∙ c.item.ensures) c.loop-place.invariant
    (subst (IsFirst _) c.in_default.is c.task_fault.ensures)

pub returns : goal.returns
returns c = none_within (task_list c.args.problem.now c.args.list) (OfTask c.args.problem.now c.args.list)
    (λ j y less. c.loop-place.invariant j y (omega (arith, less, ap length c.task_list-tasks.ensures, c.loop-place-test.false)))
