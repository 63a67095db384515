use Rattle.graph_types.proofs.Owning.{AreOwnersBefore}
use Rattle.graph_types.proofs.owners.owners_of.Given as goal

abbrev pub invariant-loop-task : goal.invariant-loop-task
invariant-loop-task l = AreOwnersBefore l.g l.task l.owners.items
