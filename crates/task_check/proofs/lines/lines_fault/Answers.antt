use Rattle.std.proofs.Common.{◌++◌, map, subst, Some}
use Rattle.problem_types.specs.Form.{grid_lines, schedule_lines}
use Rattle.task_check.specs.First.{IsFirst}
use Rattle.task_check.specs.Parts.{Either, OfGrid, OfVariables, OfReductions, OfLists}
use Rattle.task_check.proofs.Walk.{found_first, found_second}
use Rattle.task_check.proofs.Order.{declared_lines, all_rise, rest_rises, after_variables, grid_on, after_grid_on, after_variables_on, variables_on, reductions_on, lists_on}
use Rattle.task_check.proofs.Whole.{whole_first, few_where_none}
use Rattle.task_check.proofs.lines.lines_fault.Goals as goal

pub returns-in-Some : goal.returns-in-Some
returns-in-Some c =
    let p = c.args.p.now in
    whole_first p (Some c.in-Some.fault)
    (found_first (OfGrid p) (Either (OfVariables p) (Either (OfReductions p) (OfLists p))) (grid_lines p) (declared_lines p) (grid_on p) (after_grid_on p)
    (all_rise p c.requires) c.in-Some.fault (subst (IsFirst _) c.in-Some.is c.grid_fault.ensures))

pub returns-in-Some-variables_fault : goal.returns-in-Some-variables_fault
returns-in-Some-variables_fault c =
    let p = c.args.p.now in
    whole_first p (Some c.in-Some-variables_fault.fault)
    (found_second (OfGrid p) (Either (OfVariables p) (Either (OfReductions p) (OfLists p))) (subst (IsFirst _) c.in_default.is c.grid_fault.ensures) (Some c.in-Some-variables_fault.fault)
    (found_first (OfVariables p) (Either (OfReductions p) (OfLists p)) (map (λ v. v.line) p.vars) (map (λ q. q.line) p.reductions ++ schedule_lines p)
    (variables_on p) (after_variables_on p) (rest_rises p c.requires) c.in-Some-variables_fault.fault
    (subst (IsFirst _) c.in-Some-variables_fault.is c.variables_fault.ensures)))

pub returns-in-Some-reductions_fault : goal.returns-in-Some-reductions_fault
returns-in-Some-reductions_fault c =
    let p = c.args.p.now in
    whole_first p (Some c.in-Some-reductions_fault.fault)
    (found_second (OfGrid p) (Either (OfVariables p) (Either (OfReductions p) (OfLists p))) (subst (IsFirst _) c.in_default.is c.grid_fault.ensures) (Some c.in-Some-reductions_fault.fault)
    (found_second (OfVariables p) (Either (OfReductions p) (OfLists p)) (subst (IsFirst _) c.in_default-variables_fault.is c.variables_fault.ensures) (Some c.in-Some-reductions_fault.fault)
    (found_first (OfReductions p) (OfLists p) (map (λ q. q.line) p.reductions) (schedule_lines p) (reductions_on p) (lists_on p) (after_variables p c.requires)
    c.in-Some-reductions_fault.fault (subst (IsFirst _) c.in-Some-reductions_fault.is c.reductions_fault.ensures))))

pub lists_fault-requires-clause-few : goal.lists_fault-requires-clause-few
lists_fault-requires-clause-few c = few_where_none c.args.p.now (subst (IsFirst _) c.in_default.is c.grid_fault.ensures)

pub returns : goal.returns
returns c =
    let p = c.args.p.now in
    whole_first p c.lists_fault.result
    (found_second (OfGrid p) (Either (OfVariables p) (Either (OfReductions p) (OfLists p))) (subst (IsFirst _) c.in_default.is c.grid_fault.ensures) c.lists_fault.result
    (found_second (OfVariables p) (Either (OfReductions p) (OfLists p)) (subst (IsFirst _) c.in_default-variables_fault.is c.variables_fault.ensures) c.lists_fault.result
    (found_second (OfReductions p) (OfLists p) (subst (IsFirst _) c.in_default-reductions_fault.is c.reductions_fault.ensures) c.lists_fault.result c.lists_fault.ensures)))
