use Rattle.std.proofs.Common.{◌<◌, ℕ}
use Rattle.graph_types.specs.Parts.{IsSlotValid}
use Rattle.graph_types.proofs.slots.are_all_valid.Given as goal

abbrev pub invariant-loop-slot : goal.invariant-loop-slot
invariant-loop-slot l = (slot : ℕ) → slot < l.slot → IsSlotValid l.g slot
