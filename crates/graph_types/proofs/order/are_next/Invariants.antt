use Rattle.std.proofs.Common.{◌≡◌, slice_index, take}
use Rattle.std.specs.Prelude.{All, Some, slice_get}
use Rattle.graph_types.specs.Graph.{successors_of}
use Rattle.graph_types.proofs.order.are_next.Given as goal

abbrev pub invariant-loop-first : goal.invariant-loop-first
invariant-loop-first l = All (λ first. slice_get (successors_of l.g first) (slice_index l.before first) ≡ Some l.task) (take l.first-index l.leaders)
