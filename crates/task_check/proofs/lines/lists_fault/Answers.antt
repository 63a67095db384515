use Rattle.std.proofs.Common.{subst, Some}
use Rattle.std.specs.List.{flat_map}
use Rattle.problem_types.specs.Form.{task_lines, timestep_lines, closing_lines}
use Rattle.task_check.specs.First.{IsFirst}
use Rattle.task_check.specs.Parts.{Either, OfTasks, OfKeeps}
use Rattle.task_check.proofs.Walk.{found_first, found_second}
use Rattle.task_check.proofs.Order.{tasks_on, closing_on, after_init_on, init_rises, timestep_rises}
use Rattle.task_check.proofs.lines.lists_fault.Goals as goal

pub returns-in-Some : goal.returns-in-Some
returns-in-Some c = found_first (OfTasks c.args.p.now 0) (Either (OfTasks c.args.p.now 1) (OfKeeps c.args.p.now)) (flat_map task_lines c.args.p.now.init)
    (timestep_lines c.args.p.now) (tasks_on c.args.p.now 0) (after_init_on c.args.p.now) (init_rises c.args.p.now c.requires.form) c.in-Some.fault
    (subst (IsFirst _) c.in-Some.is c.tasks_fault.ensures)

pub returns-in-Some-tasks_fault : goal.returns-in-Some-tasks_fault
returns-in-Some-tasks_fault c = found_second (OfTasks c.args.p.now 0) (Either (OfTasks c.args.p.now 1) (OfKeeps c.args.p.now))
    (subst (IsFirst _) c.in_default.is c.tasks_fault.ensures) (Some c.in-Some-tasks_fault.fault)
    (found_first (OfTasks c.args.p.now 1) (OfKeeps c.args.p.now) (flat_map task_lines c.args.p.now.timestep) (closing_lines c.args.p.now) (tasks_on c.args.p.now 1)
    (closing_on c.args.p.now) (timestep_rises c.args.p.now c.requires.form) c.in-Some-tasks_fault.fault (subst (IsFirst _) c.in-Some-tasks_fault.is c.tasks_fault-2.ensures))

pub returns : goal.returns
returns c = found_second (OfTasks c.args.p.now 0) (Either (OfTasks c.args.p.now 1) (OfKeeps c.args.p.now)) (subst (IsFirst _) c.in_default.is c.tasks_fault.ensures)
    c.keeps_fault.result (found_second (OfTasks c.args.p.now 1) (OfKeeps c.args.p.now) (subst (IsFirst _) c.in_default-tasks_fault.is c.tasks_fault-2.ensures) c.keeps_fault.result
    c.keeps_fault.ensures)
