use Rattle.std.proofs.Common.{◌≡◌, map, take}
use Rattle.graph_compiler.specs.Kept.{is_kept_slot}
use Rattle.graph_compiler.proofs.kept.kept_slots.Given as goal

abbrev pub invariant-loop-slot : goal.invariant-loop-slot
invariant-loop-slot l = l.kept ≡ map (is_kept_slot l.p l.kind l.slots) (take l.slot-index l.slots)
