use Rattle.std.proofs.Common.{◌≡◌, ◌≤◌}
use Rattle.std.specs.List.{All}
use Rattle.graph_types.proofs.Linking.{AreLinkedBefore, predecessors_before}
use Rattle.graph_types.proofs.links.links_of.Given as goal

abbrev pub invariant-loop-task : goal.invariant-loop-task
invariant-loop-task l = record {
  seen : All (λ m. m ≤ l.task) l.seen.items;
  successors : AreLinkedBefore l.g l.task l.successors.items;
  predecessors : l.predecessors ≡ predecessors_before l.g l.task;
}
