use Rattle.std.proofs.Common.{[], take}
use Rattle.std.specs.Prelude.{not}
use Rattle.std.specs.List.{filter}
use Rattle.task_check.specs.Plan.{is_of_number}
use Rattle.run_task.specs.Gathered.{AreParts}
use Rattle.run_task.proofs.parts.parts_for.Given as goal

-- the parts so far are those of the requirements so far
abbrev pub invariant-loop-require : goal.invariant-loop-require
invariant-loop-require l = AreParts l.job.checked.now l.task l.site [] (filter (λ r. not (is_of_number r.what)) (take l.require-index l.require-items)) l.parts.items
