use Rattle.std.proofs.Common.{subst}
use Rattle.std.specs.List.{flat_map}
use Rattle.problem_types.specs.Form.{level_lines}
use Rattle.task_check.specs.First.{IsFirst}
use Rattle.task_check.specs.Parts.{OfNumbers, OfLevels}
use Rattle.task_check.proofs.Walk.{found_first, found_second}
use Rattle.task_check.proofs.Order.{numbers_lines, numbers_on, levels_on, grid_rises}
use Rattle.task_check.proofs.lines.grid_fault.Goals as goal

pub returns-in-Some : goal.returns-in-Some
returns-in-Some c = found_first (OfNumbers c.args.p.now) (OfLevels c.args.p.now) (numbers_lines c.args.p.now) (flat_map level_lines c.args.p.now.levels)
    (numbers_on c.args.p.now) (levels_on c.args.p.now) (grid_rises c.args.p.now c.requires) c.in-Some.fault (subst (IsFirst _) c.in-Some.is c.numbers_fault.ensures)

pub returns : goal.returns
returns c = found_second (OfNumbers c.args.p.now) (OfLevels c.args.p.now) (subst (IsFirst _) c.in_default.is c.numbers_fault.ensures) c.levels_fault.result
    c.levels_fault.ensures
