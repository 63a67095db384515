use Rattle.std.proofs.Common.{◌*◌, ◌∷◌, [], take}
use Rattle.std.specs.List.{flat_map}
use Rattle.problem_types.specs.Lists.{task_list}
use Rattle.problem_types.specs.declared.problem.Reduction.{Reduction}
use Rattle.task_check.specs.Plan.{OldNumber}
use Rattle.task_check.specs.Tallies.{HasAtMost, IsTally}
use Rattle.task_check.proofs.plan.old_slots.of_reductions.Given as goal

abbrev pub invariant-loop-q : goal.invariant-loop-q
invariant-loop-q l = record {
  tally : IsTally l.p (task_list l.p l.list) (flat_map (λ (q : Reduction). OldNumber q.name ∷ []) (take l.q-index l.p.reductions)) l.tally;
  few : HasAtMost (1 * l.q-index) l.tally;
}
