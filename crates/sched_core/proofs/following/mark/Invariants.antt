use Rattle.std.proofs.Common.{◌≡◌, true, take}
use Rattle.sched_core.specs.Step.{marked}
use Rattle.sched_core.proofs.following.mark.Given as goal

abbrev pub invariant-loop-slot : goal.invariant-loop-slot
invariant-loop-slot l = l.marks ≡ marked l.fn.marks (take l.slot-index l.slots) true
