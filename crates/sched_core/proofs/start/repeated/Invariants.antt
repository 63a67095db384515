use Rattle.std.proofs.Common.{◌≡◌}
use Rattle.std.specs.Prelude.{replicate}
use Rattle.sched_core.proofs.start.repeated.Given as goal

abbrev pub invariant-loop-added : goal.invariant-loop-added
invariant-loop-added g l = l.items ≡ replicate l._added l.item
