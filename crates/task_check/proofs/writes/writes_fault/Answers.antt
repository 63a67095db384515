use Rattle.std.proofs.Common.{◌∙◌, [], ◌∷◌, inl, sym, ap, arith, subst, slice_get}
use Rattle.task_check.specs.First.{IsFirst}
use Rattle.task_check.specs.Lines.{WriteFault}
use Rattle.task_check.specs.Parts.{OnLine}
use Rattle.task_check.proofs.Walk.{none_more, none_within, first_within}
use Rattle.task_check.proofs.Order.{writes_rise}
use Rattle.task_check.proofs.writes.writes_fault.Goals as goal

pub returns-in-Some : goal.returns-in-Some
returns-in-Some c = first_within (λ w. w.line ∷ []) c.args.task.now.writes (λ at_line w. OnLine w.line (WriteFault c.args.problem.now c.args.list c.args.place c.args.task.now at_line w))
    (λ at_line w line k s. inl s.0) (writes_rise c.args.problem.now c.requires.form c.args.list c.args.place c.args.task.now c.requires.at)
    c.loop-at_line.at_line c.item-write.result.now (ap (λ xs. slice_get xs c.loop-at_line.at_line) (sym c.as_slice.ensures) ∙ c.item-write.ensures) c.loop-at_line.invariant c.in-Some.fault
    (subst (IsFirst _) c.in-Some.is c.first_fault.ensures)

pub loop-at_line-preserved : goal.loop-at_line-preserved
loop-at_line-preserved c = none_more c.args.task.now.writes (λ at_line w. OnLine w.line (WriteFault c.args.problem.now c.args.list c.args.place c.args.task.now at_line w))
    c.loop-at_line.at_line c.item-write.result.now (ap (λ xs. slice_get xs c.loop-at_line.at_line) (sym c.as_slice.ensures) ∙ c.item-write.ensures) c.loop-at_line.invariant
    (subst (IsFirst _) c.in_default.is c.first_fault.ensures)

pub returns : goal.returns
returns c = none_within c.args.task.now.writes (λ at_line w. OnLine w.line (WriteFault c.args.problem.now c.args.list c.args.place c.args.task.now at_line w))
    (λ j y less. c.loop-at_line.invariant j y (omega (arith, less, c.len-at_line-end.ensures, c.loop-at_line-test.false)))
