use Rattle.std.proofs.Common.{◌≡◌, ◌∙◌, List, ap, subst}
use Rattle.std.specs.Prelude.{All}
use Rattle.problem_types.specs.Lists.{task_list}
use Rattle.problem_types.specs.declared.problem.Problem.{Problem}
use Rattle.problem_types.specs.declared.problem.Task.{Task}
use Rattle.kernel_sweeps.specs.Room.{AreAtMostDeep}
use Rattle.run_task.proofs.Planned.{shows_list}
use Rattle.run_task.proofs.job.StepJob.make.Goals as goal

pub invariant_of-result : goal.invariant_of-result
invariant_of-result c =
    let p = c.args.checked.now in
    let depth = c.deepest_kernel-depth.result in
    let tasks : c.task_list.result.now ≡ task_list p c.args.step = c.task_list.ensures ∙ ap (λ (q : Problem). task_list q c.args.step) c.problem-p.ensures.problem in
    record {
      shown = shows_list p c.args.step c.args.plan.now c.requires.compiled;
      deep = subst (λ (list : List Task). All (AreAtMostDeep depth) list) tasks c.deepest_kernel-depth.ensures.deep;
    }
