use Rattle.std.proofs.Common.{◌∙◌, ◌≤◌, ◌+◌, ℕ, List, ap, sym, subst, arith}
use Rattle.std.specs.Prelude.{All}
use Rattle.std.proofs.lemmas.List.Elements.{All-weaker, All-same}
use Rattle.problem_types.specs.Lists.{task_list}
use Rattle.problem_types.specs.declared.problem.Problem.{Problem}
use Rattle.problem_types.specs.declared.problem.Task.{Task}
use Rattle.problem_types.specs.declared.problem.Write.{Write}
use Rattle.kernel_sweeps.specs.Room.{AreAtMostDeep, IsAtMostDeep}
use Rattle.plain_engine.specs.Runnable.{IsRunnable}
use Rattle.plain_engine.proofs.Given.{tasks_runnable}
use Rattle.plain_engine.proofs.places.scratch_places.Goals as goal

within : (a b : ℕ) → a ≤ b → (tasks : List Task) → All (AreAtMostDeep a) tasks → All (AreAtMostDeep b) tasks
within a b small tasks deep =
    All-weaker (AreAtMostDeep a) (AreAtMostDeep b)
    (λ (t : Task) each. All-weaker (IsAtMostDeep a) (IsAtMostDeep b) (λ (w : Write) line. omega (arith, line, small)) t.writes each) tasks deep

pub returns : goal.returns
returns c =
    let p = c.args.c.now in
    let width = c.longest_row-width.result in
    let depth = c.max.result in
    let init = All-same (AreAtMostDeep c.deepest_kernel-init.result) p.init c.as_slice.result.now
    (sym (c.as_slice.ensures ∙ ap (λ (q : Problem). q.init) c.problem-p.ensures.problem)) c.deepest_kernel-init.ensures.deep in
    let timestep = All-same (AreAtMostDeep c.deepest_kernel-timestep.result) p.timestep c.as_slice-2.result.now
    (sym (c.as_slice-2.ensures ∙ ap (λ (q : Problem). q.timestep) c.problem-p.ensures.problem)) c.deepest_kernel-timestep.ensures.deep in
    subst (λ (n : ℕ). (number : ℕ) → All (IsRunnable p (width + n)) (task_list p number)) (sym c.scratch_places.ensures)
    (tasks_runnable p width depth c.longest_row-width.ensures.wide c.bounds.ensures.limits c.bounds.ensures.form
    (within c.deepest_kernel-init.result depth (omega (arith, c.max.ensures)) p.init init)
    (within c.deepest_kernel-timestep.result depth (omega (arith, c.max.ensures)) p.timestep timestep))
