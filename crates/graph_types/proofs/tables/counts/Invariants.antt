use Rattle.std.proofs.Common.{take}
use Rattle.graph_types.specs.Parts.{AreCounts}
use Rattle.graph_types.proofs.tables.counts.Given as goal

abbrev pub invariant-loop-numbers : goal.invariant-loop-numbers
invariant-loop-numbers l = AreCounts l.slots (take l.numbers-index l.lists) l.counts.items
