use Rattle.sched_core.specs.Sound.{IsSound}
use Rattle.sched_tests.proofs.steps.has_taken.Given as goal

abbrev pub invariant-loop-turn : goal.invariant-loop-turn
invariant-loop-turn l = IsSound l.core
