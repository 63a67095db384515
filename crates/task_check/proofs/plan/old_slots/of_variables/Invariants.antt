use Rattle.std.proofs.Common.{◌*◌, length, map, take}
use Rattle.std.specs.List.{flat_map}
use Rattle.uts_geom.specs.Spans.{counted}
use Rattle.problem_types.specs.Lists.{task_list}
use Rattle.problem_types.specs.declared.problem.Var.{Var}
use Rattle.task_check.specs.Plan.{Old, patches_of}
use Rattle.task_check.specs.Tallies.{HasAtMost, IsTally}
use Rattle.task_check.proofs.plan.old_slots.of_variables.Given as goal

abbrev pub invariant-loop-v : goal.invariant-loop-v
invariant-loop-v l = record {
  tally : IsTally l.p (task_list l.p l.list) (flat_map (λ (v : Var). flat_map (λ level. flat_map (λ material. map (Old v.name level material) (patches_of l.p level)) (counted 0 l.p.materials.value)) (counted 0 (length l.p.levels))) (take l.v-index l.p.vars)) l.tally;
  few : HasAtMost (1024 * 8 * 4 * l.v-index) l.tally;
}
