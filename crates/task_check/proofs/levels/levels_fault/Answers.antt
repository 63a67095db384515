use Rattle.std.proofs.Common.{◌∙◌, inl, sym, ap, arith, subst, slice_get}
use Rattle.problem_types.specs.Form.{level_lines}
use Rattle.task_check.specs.First.{IsFirst}
use Rattle.task_check.specs.Lines.{LevelFault}
use Rattle.task_check.specs.Parts.{OnLine}
use Rattle.task_check.proofs.Walk.{none_more, none_within, first_within}
use Rattle.task_check.proofs.Order.{grid_rises, numbers_lines}
use Rattle.task_check.proofs.Rising.{rises_right}
use Rattle.task_check.proofs.FarBounds.{coarser_keeps}
use Rattle.task_check.proofs.levels.levels_fault.Goals as goal

pub level_fault-requires-clause-at : goal.level_fault-requires-clause-at
level_fault-requires-clause-at c = ap (λ xs. slice_get xs c.loop-level.level) (sym c.as_slice.ensures) ∙ c.item.ensures

pub level_fault-requires-clause-coarser : goal.level_fault-requires-clause-coarser
level_fault-requires-clause-coarser c = coarser_keeps c.args.problem.now c.requires c.loop-level.level c.loop-level.invariant

pub returns-in-Some : goal.returns-in-Some
returns-in-Some c = first_within level_lines c.args.problem.now.levels (λ level l. OnLine l.line (LevelFault c.args.problem.now level l))
    (λ level l line k s. inl s.0) (rises_right (numbers_lines c.args.problem.now) _ (grid_rises c.args.problem.now c.requires))
    c.loop-level.level c.item.result.now (ap (λ xs. slice_get xs c.loop-level.level) (sym c.as_slice.ensures) ∙ c.item.ensures) c.loop-level.invariant c.in-Some.fault
    (subst (IsFirst _) c.in-Some.is c.level_fault.ensures)

pub loop-level-preserved : goal.loop-level-preserved
loop-level-preserved c = none_more c.args.problem.now.levels (λ level l. OnLine l.line (LevelFault c.args.problem.now level l))
    c.loop-level.level c.item.result.now (ap (λ xs. slice_get xs c.loop-level.level) (sym c.as_slice.ensures) ∙ c.item.ensures) c.loop-level.invariant
    (subst (IsFirst _) c.in_default.is c.level_fault.ensures)

pub returns : goal.returns
returns c = none_within c.args.problem.now.levels (λ level l. OnLine l.line (LevelFault c.args.problem.now level l))
    (λ j y less. c.loop-level.invariant j y (omega (arith, less, c.len-level-end.ensures, c.loop-level-test.false)))
