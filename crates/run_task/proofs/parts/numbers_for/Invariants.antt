use Rattle.std.proofs.Common.{[], take}
use Rattle.std.specs.List.{filter}
use Rattle.problem_types.specs.declared.problem.Problem.{Problem}
use Rattle.task_check.specs.Plan.{is_of_number}
use Rattle.run_task.specs.Gathered.{AreGiven}
use Rattle.run_task.specs.declared.work.Site.{Site}
use Rattle.run_task.proofs.parts.numbers_for.Given as goal

-- the numbers so far are those of the requirements so far
abbrev pub invariant-loop-require : goal.invariant-loop-require
invariant-loop-require l = (p : Problem) (site : Site) → AreGiven p site [] (filter (λ r. is_of_number r.what) (take l.require-index l.require-items)) l.numbers.items
