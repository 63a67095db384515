use Rattle.std.proofs.Common.{◌≡◌, ◌+◌, ◌<◌, ℕ, cond, length, slice_index, take}
use Rattle.graph_types.specs.Graph.{has}
use Rattle.graph_types.proofs.tables.raise.Given as goal

abbrev pub invariant-loop-n : goal.invariant-loop-n
invariant-loop-n l = (n : ℕ) → n < length l.initial.counts → slice_index l.counts n ≡ slice_index l.initial.counts n + cond (has (take l.n-index l.numbers) n) 1 0
