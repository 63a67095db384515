use Rattle.sched_core.specs.Sound.{IsSound}
use Rattle.sched_tests.proofs.diamond.goes_on.Given as goal

abbrev pub invariant-loop-kind : goal.invariant-loop-kind
invariant-loop-kind l = IsSound l.core
