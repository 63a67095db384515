-- The limits of lines are none of plans.
use Rattle.std.proofs.Common.{inl, inr, ◌<◌, arith, List}
use Rattle.problem_types.specs.declared.problem.Problem.{Problem}
use Rattle.problem_types.specs.declared.problem.Task.{Task}
use Rattle.task_check.specs.declared.fault.Which.{Which}
use Rattle.task_check.specs.declared.fault.Which.TheVariants as limit
use Rattle.task_check.specs.Counts.{IsAbove, IsPlanTooLarge}
use Rattle.task_check.specs.First.{limit_rank}

not_above_line : (p : Problem) (tasks : List Task) (w : Which) → limit_rank w < 12 → IsAbove p tasks w → ⊥
not_above_line p tasks limit.Steps low h = h
not_above_line p tasks limit.Dump low h = h
not_above_line p tasks limit.Ghost low h = h
not_above_line p tasks limit.Materials low h = h
not_above_line p tasks limit.Levels low h = h
not_above_line p tasks limit.Bounds low h = h
not_above_line p tasks limit.Patches low h = h
not_above_line p tasks limit.Cells low h = h
not_above_line p tasks limit.Variables low h = h
not_above_line p tasks limit.Reductions low h = h
not_above_line p tasks limit.Tasks low h = h
not_above_line p tasks limit.Lines low h = h
not_above_line p tasks limit.Detailed low h = omega (arith, low)
not_above_line p tasks limit.Slots low h = omega (arith, low)
not_above_line p tasks limit.Reads low h = omega (arith, low)
not_above_line p tasks limit.Stored low h = omega (arith, low)
not_above_line p tasks limit.Gathered low h = omega (arith, low)

pub no_line_limit : (p : Problem) (w : Which) → limit_rank w < 12 → IsPlanTooLarge p w → ⊥
no_line_limit p w low (inl h) = not_above_line p p.init w low h
no_line_limit p w low (inr h) = not_above_line p p.timestep w low h
