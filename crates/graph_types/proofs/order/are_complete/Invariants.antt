use Rattle.std.proofs.Common.{◌≡◌, ◌<◌, ℕ, length}
use Rattle.graph_types.specs.Graph.{successors_of}
use Rattle.graph_types.specs.Parts.{followers_before}
use Rattle.graph_types.proofs.order.are_complete.Given as goal

abbrev pub invariant-loop-task : goal.invariant-loop-task
invariant-loop-task l = (task : ℕ) → task < l.task → length (successors_of l.g task) ≡ followers_before l.g task l.g.tasks
