use Rattle.std.proofs.Common.{◌≡◌, [], replicate}
use Rattle.graph_text.proofs.predecessors.empty_lists.Given as goal

abbrev pub invariant-loop-so_far : goal.invariant-loop-so_far
invariant-loop-so_far l = l.lists.items ≡ replicate l._so_far []
