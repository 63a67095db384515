use Rattle.std.proofs.Common.{◌<◌, ◌≤◌, ℕ}
use Rattle.std.specs.Prelude.{All}
use Rattle.graph_types.specs.Parts.{AreFollowersCounted, IsTaskOrdered}
use Rattle.graph_types.proofs.order.are_ordered.Given as goal

abbrev pub invariant-loop-task : goal.invariant-loop-task
invariant-loop-task l = record {
  seen : All (λ m. m ≤ l.task) l.seen;
  before : AreFollowersCounted l.g l.task l.before;
  ordered : (task : ℕ) → task < l.task → IsTaskOrdered l.g task;
}
