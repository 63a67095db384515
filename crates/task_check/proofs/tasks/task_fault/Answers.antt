use Rattle.std.proofs.Common.{[], ◌∷◌, ◌++◌, map, subst, Some}
use Rattle.task_check.specs.First.{IsFirst}
use Rattle.task_check.specs.Lines.{TaskFault}
use Rattle.task_check.specs.Parts.{Either, OnLine, OfRequirements, OfWrites}
use Rattle.task_check.proofs.Walk.{one_line, both_on, found_first, found_second}
use Rattle.task_check.proofs.Order.{task_rises, requirements_on, writes_on, few_layers_where_none}
use Rattle.task_check.proofs.tasks.task_fault.Goals as goal

pub returns-in-Some : goal.returns-in-Some
returns-in-Some c =
    let p = c.args.problem.now in
    let t = c.args.task.now in
    found_first (OnLine t.line (TaskFault p c.args.list c.args.place t)) (Either (OfRequirements p c.args.list c.args.place t) (OfWrites p c.args.list c.args.place t))
    (t.line ∷ []) (map (λ r. r.line) t.requirements ++ map (λ w. w.line) t.writes) (one_line t.line _)
    (both_on (OfRequirements p c.args.list c.args.place t) (OfWrites p c.args.list c.args.place t) _ _ (requirements_on p c.args.list c.args.place t)
    (writes_on p c.args.list c.args.place t)) (task_rises p c.requires.form c.args.list c.args.place t c.requires.at) c.in-Some.fault
    (subst (IsFirst _) c.in-Some.is c.first_fault.ensures)

pub returns-in-Some-requirements_fault : goal.returns-in-Some-requirements_fault
returns-in-Some-requirements_fault c =
    let p = c.args.problem.now in
    let t = c.args.task.now in
    found_second (OnLine t.line (TaskFault p c.args.list c.args.place t)) (Either (OfRequirements p c.args.list c.args.place t) (OfWrites p c.args.list c.args.place t))
    (subst (IsFirst _) c.in_default.is c.first_fault.ensures) (Some c.in-Some-requirements_fault.fault)
    (found_first (OfRequirements p c.args.list c.args.place t) (OfWrites p c.args.list c.args.place t) (map (λ r. r.line) t.requirements) (map (λ w. w.line) t.writes)
    (requirements_on p c.args.list c.args.place t) (writes_on p c.args.list c.args.place t) (task_rises p c.requires.form c.args.list c.args.place t c.requires.at).1
    c.in-Some-requirements_fault.fault (subst (IsFirst _) c.in-Some-requirements_fault.is c.requirements_fault.ensures))

pub writes_fault-requires-clause-few : goal.writes_fault-requires-clause-few
writes_fault-requires-clause-few c = few_layers_where_none c.args.problem.now c.args.list c.args.place c.args.task.now c.requires.few
    (subst (IsFirst _) c.in_default-requirements_fault.is c.requirements_fault.ensures)

pub returns : goal.returns
returns c =
    let p = c.args.problem.now in
    let t = c.args.task.now in
    found_second (OnLine t.line (TaskFault p c.args.list c.args.place t)) (Either (OfRequirements p c.args.list c.args.place t) (OfWrites p c.args.list c.args.place t))
    (subst (IsFirst _) c.in_default.is c.first_fault.ensures) c.writes_fault.result
    (found_second (OfRequirements p c.args.list c.args.place t) (OfWrites p c.args.list c.args.place t) (subst (IsFirst _) c.in_default-requirements_fault.is c.requirements_fault.ensures)
    c.writes_fault.result c.writes_fault.ensures)
