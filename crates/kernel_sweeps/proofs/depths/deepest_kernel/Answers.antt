use Rattle.std.proofs.Common.{take, sym, subst, arith}
use Rattle.std.proofs.lemmas.List.{take_all}
use Rattle.std.proofs.lemmas.List.Elements.{All-more, All-weaker, All-same}
use Rattle.kernel_sweeps.specs.Room.{AreAtMostDeep, IsAtMostDeep}
use Rattle.kernel_sweeps.proofs.depths.deepest_kernel.Goals as goal

pub loop-task-preserved : goal.loop-task-preserved
loop-task-preserved c =
    let loop = c.loop-task.invariant in
    let tasks = c.args.tasks.now in
    let i = c.loop-task.task-index in
    let most = c.max-deepest.result in
    let task = c.task-item.result in
    let lines = c.as_slice.result.now in
    let here : AreAtMostDeep most task =
    All-same (IsAtMostDeep most) task.writes lines (sym c.as_slice.ensures)
    (All-weaker (IsAtMostDeep c.deepest_line.result) (IsAtMostDeep most) (λ w deep. omega (arith, deep, c.max-deepest.ensures)) lines c.deepest_line.ensures.deep) in
    record {
      deep = All-more (AreAtMostDeep most) tasks i task (omega arith)
          (All-weaker (AreAtMostDeep c.loop-task.deepest) (AreAtMostDeep most)
          (λ t each. All-weaker (IsAtMostDeep c.loop-task.deepest) (IsAtMostDeep most) (λ w deep. omega (arith, deep, c.max-deepest.ensures)) t.writes each)
          (take i tasks) loop.deep)
          (subst (AreAtMostDeep most) c.task-item.is here);
      least = λ bound all.
          let of_task : AreAtMostDeep bound task = subst (AreAtMostDeep bound) (sym c.task-item.is) (all i task (omega arith)) in
          let below = c.deepest_line.ensures.least bound (All-same (IsAtMostDeep bound) lines task.writes c.as_slice.ensures of_task) in
          omega (arith, loop.least bound all, below, c.max-deepest.ensures);
      shallow = omega (arith, loop.shallow, c.max-deepest.ensures, c.deepest_line.ensures.shallow);
    }

pub returns-clause-deep : goal.returns-clause-deep
returns-clause-deep c =
    let tasks = c.args.tasks.now in
    let i = c.loop-task.task-index in
    All-same (AreAtMostDeep c.loop-task.deepest) tasks (take i tasks) (sym (take_all i tasks c.loop-task-test.false)) c.loop-task.invariant.deep
