use Rattle.std.proofs.Common.{◌≡◌, ◌<◌, ℕ, cond, length, slice_index, take}
use Rattle.graph_types.specs.Graph.{has}
use Rattle.graph_types.proofs.owners.own.Given as goal

abbrev pub invariant-loop-n : goal.invariant-loop-n
invariant-loop-n l = (n : ℕ) → n < length l.initial.owners → slice_index l.owners n ≡ cond (has (take l.n-index l.numbers) n) l.task (slice_index l.initial.owners n)
