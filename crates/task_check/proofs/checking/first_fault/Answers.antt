use Rattle.std.proofs.Common.{subst}
use Rattle.task_check.specs.First.{IsFirst, IsFirstLimit, of_lines, of_plans}
use Rattle.task_check.proofs.checking.first_fault.Goals as goal

pub returns-in-Some-clause-fault : goal.returns-in-Some-clause-fault
returns-in-Some-clause-fault c = of_lines c.in-Some.fault.line c.in-Some.fault.kind (subst (IsFirst _) c.in-Some.is c.lines_fault.ensures)

pub returns-in-Some-plan_fault-clause-fault : goal.returns-in-Some-plan_fault-clause-fault
returns-in-Some-plan_fault-clause-fault c =
    let first = subst (IsFirstLimit _) c.in-Some-plan_fault.is c.plan_fault.ensures in
    of_plans c.in-Some-plan_fault.which (subst (IsFirst _) c.in_default.is c.lines_fault.ensures) first.0 first.1
