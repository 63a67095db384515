use Rattle.graph_text.proofs.Noting.{AreNotedBefore}
use Rattle.graph_text.proofs.predecessors.predecessors.Given as goal

-- the tasks so far are noted
abbrev pub invariant-loop-task : goal.invariant-loop-task
invariant-loop-task l = AreNotedBefore l.g l.task l.count l.lists.items
