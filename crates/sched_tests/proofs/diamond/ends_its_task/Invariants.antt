use Rattle.sched_core.specs.Sound.{IsSound}
use Rattle.sched_tests.proofs.diamond.ends_its_task.Given as goal

abbrev pub invariant-loop-round : goal.invariant-loop-round
invariant-loop-round l = IsSound l.core
