use Rattle.std.proofs.Common.{ℕ, ◌≤◌, take}
use Rattle.std.specs.Prelude.{All}
use Rattle.kernel_sweeps.specs.Room.{AreAtMostDeep}
use Rattle.kernel_sweeps.proofs.depths.deepest_kernel.Given as goal

-- no kernel so far is deeper, and no bound of all of them is less
abbrev pub invariant-loop-task : goal.invariant-loop-task
invariant-loop-task l = record {
  deep : All (AreAtMostDeep l.deepest) (take l.task-index l.tasks);
  least : (bound : ℕ) → All (AreAtMostDeep bound) l.tasks → l.deepest ≤ bound;
  shallow : l.deepest ≤ 64;
}
