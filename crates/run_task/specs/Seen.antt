-- What a detailed task on a patch sees when it has gathered all that it reads.
use Rattle.problem_types.specs.declared.problem.Problem.{Problem}
use Rattle.problem_types.specs.declared.problem.Task.{Task}
use Rattle.task_check.specs.Plan.{OnPatch}
use Rattle.kernel_eval.specs.declared.windows.Windows.{Windows}
use Rattle.slot_contents.specs.Laws.{IsTaskOf, RunsAt}
use Rattle.run_task.specs.Gathered.{AreWindows, slots_read}
use Rattle.run_task.specs.declared.patch_kernels.PatchKernels.{PatchKernels}
use Rattle.run_task.specs.declared.work.Site.{Site}

-- the windows of a task that runs on a patch, with all that it reads
pub record SeesAll (p : Problem) (t : Task) (site : Site) (w : Windows) : Type 0 where
  pub task : IsTaskOf p site.step site.task t
  pub runs : RunsAt p t site.level site.material site.patch
  pub windows : AreWindows p t site (slots_read p site.step (OnPatch site.task site.level site.material site.patch)) w

abbrev pub DoSeeAll : PatchKernels → Type 0
DoSeeAll k = SeesAll k.checked.now k.task.now k.site k.windows.now
