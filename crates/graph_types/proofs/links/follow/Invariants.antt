use Rattle.std.proofs.Common.{◌≡◌, ◌<◌, ◌++◌, ◌∷◌, [], ℕ, cond, length, take}
use Rattle.std.specs.Prelude.{slice_index_or}
use Rattle.graph_types.specs.Graph.{has}
use Rattle.graph_types.proofs.links.follow.Given as goal

abbrev pub invariant-loop-first : goal.invariant-loop-first
invariant-loop-first l = record {
  size : length l.successors.items ≡ length l.initial.successors.items;
  followed : (first : ℕ) → first < length l.initial.successors.items → slice_index_or l.successors.items first []
      ≡ slice_index_or l.initial.successors.items first [] ++ cond (has (take l.first-index l.leaders) first) (l.task ∷ []) [];
}
