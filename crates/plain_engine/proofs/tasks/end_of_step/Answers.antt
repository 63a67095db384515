use Rattle.std.proofs.Common.{◌≡◌, ◌∙◌, IfOk, ap, sym, subst}
use Rattle.std.proofs.lemmas.List.Elements.{All-same}
use Rattle.problem_types.specs.Lists.{task_list}
use Rattle.problem_types.specs.declared.problem.Problem.{Problem}
use Rattle.uts_model.specs.WholeField.{State, after_tasks}
use Rattle.whole_fields.specs.Stored.{state_of}
use Rattle.whole_fields.specs.declared.warehouse.Warehouse.{Warehouse}
use Rattle.plain_engine.specs.Runnable.{IsRunnable}
use Rattle.plain_engine.proofs.Steps.{end_of_step-is}
use Rattle.plain_engine.proofs.tasks.end_of_step.Goals as goal
use Rattle.plain_engine.proofs.tasks.end_of_step.Goals.{After-task_list}

are_tasks : (c : After-task_list) → c.task_list.result.now ≡ task_list c.args.step.now.checked.now c.args.step.now.number
are_tasks c = c.task_list.ensures ∙ ap (λ (p : Problem). task_list p c.args.step.now.number) c.problem.ensures.problem

pub run_tasks-requires-clause-tasks : goal.run_tasks-requires-clause-tasks
run_tasks-requires-clause-tasks c =
    let step = c.args.step.now in
    All-same (IsRunnable step.checked.now step.places) c.task_list.result.now _ (are_tasks ((goal.at.run_tasks-requires-clause-tasks c).After-task_list))
    step.runnable

pub returns-clause-state : goal.returns-clause-state
returns-clause-state c =
    let step = c.args.step.now in
    let p = step.checked.now in
    subst (λ (end : State). IfOk c.run_tasks.result (λ (w : Warehouse). state_of p w ≡ end))
    (ap (after_tasks p step.number (state_of p step.old.now)) (are_tasks ((goal.at.returns-clause-state c).After-task_list))
    ∙ ap (λ (old : State). after_tasks p step.number old (task_list p step.number)) c.requires.state
    ∙ sym (end_of_step-is p step.number))
    c.run_tasks.ensures.state
