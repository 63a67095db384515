use Rattle.std.proofs.Common.{◌≡◌}
use Rattle.sched_core.proofs.Starting.{first_below}
use Rattle.sched_core.proofs.start.first_words.Given as goal

abbrev pub invariant-loop-task : goal.invariant-loop-task
invariant-loop-task l = l.words ≡ first_below l.graph.predecessors l.task
