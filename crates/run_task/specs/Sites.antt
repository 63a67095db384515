-- Where a job's detailed tasks run.
use Rattle.std.specs.Prelude.{◌≡◌, ◌<◌, Some, length, slice_get}
use Rattle.problem_types.specs.declared.problem.Problem.{Problem}
use Rattle.problem_types.specs.declared.problem.Level.{Level}
use Rattle.problem_types.specs.declared.problem.Task.{Task}
use Rattle.slot_contents.specs.Laws.{IsTaskOf, RunsAt}
use Rattle.run_task.specs.declared.job.StepJob.{StepJob}
use Rattle.run_task.specs.declared.work.Site.{Site}

-- the task of a step runs on the patch
pub record IsSiteOf (job : StepJob) (site : Site) (t : Task) : Type 0 where
  pub step_is : site.step ≡ job.step
  pub task : IsTaskOf job.checked.now site.step site.task t
  pub runs : RunsAt job.checked.now t site.level site.material site.patch

-- the problem has the level and the patch
pub record IsPlaced (p : Problem) (site : Site) : Type 0 where
  pub level_there : site.level < length p.levels
  pub patch_there : (l : Level) → slice_get p.levels site.level ≡ Some l → site.patch < length l.patches
