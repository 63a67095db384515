use Rattle.std.proofs.Common.{◌≡◌, take}
use Rattle.sched_core.proofs.start.widened.Given as goal

abbrev pub invariant-loop-number : goal.invariant-loop-number
invariant-loop-number l = l.words ≡ take l.number-index l.numbers
