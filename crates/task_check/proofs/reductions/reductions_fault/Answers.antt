use Rattle.std.proofs.Common.{◌∙◌, [], ◌∷◌, inl, sym, ap, arith, subst, slice_get}
use Rattle.task_check.specs.First.{IsFirst}
use Rattle.task_check.specs.Lines.{ReductionFault}
use Rattle.task_check.specs.Parts.{OnLine}
use Rattle.task_check.proofs.Walk.{none_more, none_within, first_within}
use Rattle.task_check.proofs.Order.{reductions_rise}
use Rattle.task_check.proofs.reductions.reductions_fault.Goals as goal

pub returns-in-Some : goal.returns-in-Some
returns-in-Some c = first_within (λ v. v.line ∷ []) c.args.problem.now.reductions (λ place v. OnLine v.line (ReductionFault c.args.problem.now place v))
    (λ place v line k s. inl s.0) (reductions_rise c.args.problem.now c.requires)
    c.loop-place.place c.item-reduction.result.now (ap (λ xs. slice_get xs c.loop-place.place) (sym c.as_slice.ensures) ∙ c.item-reduction.ensures) c.loop-place.invariant c.in-Some.fault
    (subst (IsFirst _) c.in-Some.is c.first_fault.ensures)

pub loop-place-preserved : goal.loop-place-preserved
loop-place-preserved c = none_more c.args.problem.now.reductions (λ place v. OnLine v.line (ReductionFault c.args.problem.now place v))
    c.loop-place.place c.item-reduction.result.now (ap (λ xs. slice_get xs c.loop-place.place) (sym c.as_slice.ensures) ∙ c.item-reduction.ensures) c.loop-place.invariant
    (subst (IsFirst _) c.in_default.is c.first_fault.ensures)

pub returns : goal.returns
returns c = none_within c.args.problem.now.reductions (λ place v. OnLine v.line (ReductionFault c.args.problem.now place v))
    (λ j y less. c.loop-place.invariant j y (omega (arith, less, c.len-place-end.ensures, c.loop-place-test.false)))
