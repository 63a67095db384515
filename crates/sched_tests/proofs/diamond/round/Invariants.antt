use Rattle.sched_core.specs.Sound.{IsSound}
use Rattle.sched_tests.proofs.diamond.round.Given as goal

abbrev pub invariant-loop-seat : goal.invariant-loop-seat
invariant-loop-seat l = IsSound l.core
