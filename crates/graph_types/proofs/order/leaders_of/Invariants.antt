use Rattle.std.proofs.Common.{◌≡◌, ◌<◌, ◌+◌, ℕ, length, slice_index, take}
use Rattle.std.specs.Prelude.{◌==◌}
use Rattle.std.specs.List.{list_any}
use Rattle.graph_types.specs.Graph.{has, reads_of}
use Rattle.graph_types.specs.Parts.{AreNoted}
use Rattle.graph_types.proofs.order.leaders_of.Given as goal

abbrev pub invariant-loop-slot : goal.invariant-loop-slot
invariant-loop-slot l = record {
  noted : AreNoted l.seen (l.task + 1) l.found.items;
  found : (first : ℕ) → first < length l.initial.seen → has l.found.items first ≡ list_any (λ slot. slice_index l.owners slot == first) (take l.slot-index (reads_of l.g l.task));
}
