use Rattle.std.proofs.Common.{◌≤◌}
use Rattle.sched_core.specs.Sound.{IsSound}
use Rattle.sched_tests.proofs.steps.taken.Given as goal

abbrev pub invariant-loop-kind : goal.invariant-loop-kind
invariant-loop-kind l = IsSound l.core × (l.count ≤ l.kind-index)
