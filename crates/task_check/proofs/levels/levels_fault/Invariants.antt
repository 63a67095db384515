use Rattle.task_check.specs.Lines.{LevelFault}
use Rattle.task_check.specs.Parts.{OnLine}
use Rattle.task_check.proofs.Walk.{NoneBefore}
use Rattle.task_check.proofs.levels.levels_fault.Given as goal

abbrev pub invariant-loop-level : goal.invariant-loop-level
invariant-loop-level l = NoneBefore l.problem.levels (λ level item. OnLine item.line (LevelFault l.problem level item)) l.level
