use Rattle.std.proofs.Common.{◌∙◌, ◌<◌, length, ap}
use Rattle.std.proofs.lemmas.List.Elements.{All-same}
use Rattle.uts_model.specs.WholeField.{State}
use Rattle.whole_fields.specs.Stored.{state_of}
use Rattle.plain_engine.specs.Changes.{IsFieldOf, with_fields, with_numbers, field_changes}
use Rattle.plain_engine.specs.declared.written.WrittenNumber.{WrittenNumber}
use Rattle.plain_engine.proofs.Changed.{after_task-is}
use Rattle.plain_engine.proofs.Given.{fields_belong, numbers_known}
use Rattle.plain_engine.proofs.tasks.run_task.Goals as goal

pub put_fields-requires-clause-fields : goal.put_fields-requires-clause-fields
put_fields-requires-clause-fields c =
    let step = c.args.step.now in
    let p = step.checked.now in
    All-same (IsFieldOf p) c.in_ok-fields.field-0.fields _ c.in_ok-fields.ensures.fields
    (fields_belong p step.places step.number (state_of p step.old.now) (state_of p c.args.new.now) c.args.task.now c.requires.task)

pub put_numbers-requires-clause-numbers : goal.put_numbers-requires-clause-numbers
put_numbers-requires-clause-numbers c =
    let step = c.args.step.now in
    let p = step.checked.now in
    All-same (λ (x : WrittenNumber). x.name < length p.names) c.in_ok-fields.field-0.numbers _ c.in_ok-fields.ensures.numbers
    (numbers_known p step.places step.number (state_of p step.old.now) (state_of p c.args.new.now) c.args.task.now c.requires.task)

pub returns-clause-state : goal.returns-clause-state
returns-clause-state c =
    let step = c.args.step.now in
    let p = step.checked.now in
    let old = state_of p step.old.now in
    let new = state_of p c.args.new.now in
    c.put_numbers.ensures.state
    ∙ ap (λ (s : State). with_numbers s c.in_ok-fields.field-0.numbers)
    (c.put_fields.ensures.state (field_changes p step.number old new c.args.task.now) c.in_ok-fields.ensures.fields)
    ∙ ap (with_numbers (with_fields p new (field_changes p step.number old new c.args.task.now))) c.in_ok-fields.ensures.numbers
    ∙ after_task-is p step.number old new c.args.task.now c.requires.blank
