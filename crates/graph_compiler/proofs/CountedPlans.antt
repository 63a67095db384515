-- Plans are as large as the checker counts.
use Rattle.std.proofs.Common.{refl}
use Rattle.task_check.specs.Plan.{details_of, slots_of, reads}
use Rattle.graph_types.specs.Linked.{linked}
use Rattle.graph_compiler.specs.Kinds.{tasks_in}
use Rattle.graph_compiler.specs.Laws.{PlansAreCounted}
use Rattle.graph_compiler.specs.Plan.{graph_of, plan_of}
use Rattle.graph_compiler.proofs.ValidGraphs.{sum-places}

pub plans_counted : PlansAreCounted
unfolding plan_of graph_of linked
plans_counted p k = record {
  tasks = refl;
  slots = refl;
  reads = sum-places (details_of p (tasks_in p k.list)) (slots_of p (tasks_in p k.list)) (reads p (tasks_in p k.list));
}
