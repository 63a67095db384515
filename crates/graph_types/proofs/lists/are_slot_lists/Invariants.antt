use Rattle.std.proofs.Common.{take}
use Rattle.std.specs.Prelude.{All}
use Rattle.graph_types.specs.Graph.{IsSlotList}
use Rattle.graph_types.proofs.lists.are_slot_lists.Given as goal

abbrev pub invariant-loop-numbers : goal.invariant-loop-numbers
invariant-loop-numbers l = All (IsSlotList l.slots) (take l.numbers-index l.lists)
