use Rattle.std.proofs.Common.{◌*◌, map}
use Rattle.std.specs.List.{flat_map}
use Rattle.uts_geom.specs.Spans.{counted}
use Rattle.problem_types.specs.Lists.{task_list}
use Rattle.task_check.specs.Plan.{Old, patches_of}
use Rattle.task_check.specs.Tallies.{HasAtMost, IsTally}
use Rattle.task_check.proofs.plan.old_slots.of_levels.Given as goal

abbrev pub invariant-loop-level : goal.invariant-loop-level
invariant-loop-level l = record {
  tally : IsTally l.p (task_list l.p l.list) (flat_map (λ level. flat_map (λ material. map (Old l.name level material) (patches_of l.p level)) (counted 0 l.p.materials.value)) (counted 0 l.level)) l.tally;
  few : HasAtMost (1024 * 8 * l.level) l.tally;
}
