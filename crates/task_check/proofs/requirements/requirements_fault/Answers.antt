use Rattle.std.proofs.Common.{◌∙◌, [], ◌∷◌, inl, sym, ap, arith, subst, slice_get}
use Rattle.task_check.specs.First.{IsFirst}
use Rattle.task_check.specs.Lines.{RequireFault}
use Rattle.task_check.specs.Parts.{OnLine}
use Rattle.task_check.proofs.Walk.{none_more, none_within, first_within}
use Rattle.task_check.proofs.Order.{requirements_rise}
use Rattle.task_check.proofs.requirements.requirements_fault.Goals as goal

pub returns-in-Some : goal.returns-in-Some
returns-in-Some c = first_within (λ r. r.line ∷ []) c.args.task.now.requirements (λ at_line r. OnLine r.line (RequireFault c.args.problem.now c.args.list c.args.place c.args.task.now at_line r))
    (λ at_line r line k s. inl s.0) (requirements_rise c.args.problem.now c.requires.form c.args.list c.args.place c.args.task.now c.requires.at)
    c.loop-at_line.at_line c.item-requirement.result.now (ap (λ xs. slice_get xs c.loop-at_line.at_line) (sym c.as_slice.ensures) ∙ c.item-requirement.ensures) c.loop-at_line.invariant c.in-Some.fault
    (subst (IsFirst _) c.in-Some.is c.first_fault.ensures)

pub loop-at_line-preserved : goal.loop-at_line-preserved
loop-at_line-preserved c = none_more c.args.task.now.requirements (λ at_line r. OnLine r.line (RequireFault c.args.problem.now c.args.list c.args.place c.args.task.now at_line r))
    c.loop-at_line.at_line c.item-requirement.result.now (ap (λ xs. slice_get xs c.loop-at_line.at_line) (sym c.as_slice.ensures) ∙ c.item-requirement.ensures) c.loop-at_line.invariant
    (subst (IsFirst _) c.in_default.is c.first_fault.ensures)

pub returns : goal.returns
returns c = none_within c.args.task.now.requirements (λ at_line r. OnLine r.line (RequireFault c.args.problem.now c.args.list c.args.place c.args.task.now at_line r))
    (λ j y less. c.loop-at_line.invariant j y (omega (arith, less, c.len-at_line-end.ensures, c.loop-at_line-test.false)))
