-- Laws on plans.
use Rattle.std.specs.Prelude.{◌≡◌, List, length}
use Rattle.std.specs.List.{sum_by}
use Rattle.problem_types.specs.Form.{IsProblemInForm}
use Rattle.problem_types.specs.declared.problem.Problem.{Problem}
use Rattle.problem_types.specs.declared.problem.Task.{Task}
use Rattle.task_check.specs.Counts.{detailed_count, slot_count, read_count}
use Rattle.task_check.specs.First.{IsAccepted}
use Rattle.graph_types.specs.Graph.{IsValid}
use Rattle.graph_types.specs.declared.graph.Graph.{Graph}
use Rattle.graph_compiler.specs.Kinds.{tasks_in}
use Rattle.graph_compiler.specs.Plan.{plan_of}
use Rattle.graph_compiler.specs.declared.plan.StepKind.{StepKind}

-- the graph of each plan of an accepted problem is valid
abbrev pub PlansAreValid : Type 0
PlansAreValid = (p : Problem) (k : StepKind) → IsProblemInForm p → IsAccepted p → IsValid (plan_of p k).graph

-- the graph has as many tasks, slots and reads as are counted for a list and compared with the limits
pub record IsCounted (p : Problem) (list : List Task) (g : Graph) : Type 0 where
  pub tasks : g.tasks ≡ detailed_count p list
  pub slots : g.slots ≡ slot_count p list
  pub reads : sum_by length g.reads ≡ read_count p list

-- so is the graph of each plan
abbrev pub PlansAreCounted : Type 0
PlansAreCounted = (p : Problem) (k : StepKind) → IsCounted p (tasks_in p k.list) (plan_of p k).graph
