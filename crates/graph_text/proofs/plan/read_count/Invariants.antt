use Rattle.std.proofs.Common.{◌≡◌, ◌<◌, ◌^◌, length, take}
use Rattle.std.specs.List.{sum_by}
use Rattle.graph_text.proofs.plan.read_count.Given as goal

-- the reads of the tasks so far
abbrev pub invariant-loop-slots : goal.invariant-loop-slots
invariant-loop-slots l = (l.count ≡ sum_by length (take l.slots-index l.slots-items)) × (l.count < 2 ^ 63)
