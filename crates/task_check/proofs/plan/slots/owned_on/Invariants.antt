use Rattle.std.proofs.Common.{◌≡◌, ◌≤◌, ◌*◌}
use Rattle.std.specs.List.{sum_by}
use Rattle.uts_geom.specs.Spans.{counted}
use Rattle.task_check.specs.Counts.{owned_count}
use Rattle.task_check.proofs.plan.slots.owned_on.Given as goal

abbrev pub invariant-loop-patch : goal.invariant-loop-patch
invariant-loop-patch l = record { sum : l.total ≡ sum_by (owned_count l.p l.c l.level) (counted 0 l.patch); few : l.total ≤ 68769820673 * l.patch }
