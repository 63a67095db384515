use Rattle.std.proofs.Common.{◌*◌, ◌∷◌, []}
use Rattle.std.specs.List.{flat_map}
use Rattle.uts_geom.specs.Spans.{counted}
use Rattle.problem_types.specs.Lists.{task_list}
use Rattle.task_check.specs.Plan.{Old}
use Rattle.task_check.specs.Tallies.{HasAtMost, IsTally}
use Rattle.task_check.proofs.plan.old_slots.of_material.Given as goal

abbrev pub invariant-loop-patch : goal.invariant-loop-patch
invariant-loop-patch l = record {
  tally : IsTally l.p (task_list l.p l.list) (flat_map (λ patch. Old l.name l.level l.material patch ∷ []) (counted 0 l.patch)) l.tally;
  few : HasAtMost (1 * l.patch) l.tally;
}
