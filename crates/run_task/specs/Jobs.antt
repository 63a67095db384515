-- The job of a step.
use Rattle.std.specs.Prelude.{◌≡◌, ℕ, List, length}
use Rattle.problem_types.specs.declared.problem.Problem.{Problem}
use Rattle.problem_types.specs.declared.problem.Task.{Task}
use Rattle.task_check.specs.Plan.{details_of}
use Rattle.graph_compiler.specs.Kinds.{list_at}
use Rattle.graph_compiler.specs.Plan.{plan_of, reads_of_list, slots_of_list, tasks_of_list, writes_of_list}
use Rattle.graph_compiler.specs.declared.plan.Plan.{Plan}
use Rattle.graph_compiler.specs.declared.plan.StepKind.{StepKind}

-- the plan is one of the list of a step
pub record IsPlanFor (p : Problem) (step : ℕ) (plan : Plan) : Type 0 where
  pub kind : StepKind
  pub list : kind.list ≡ list_at step
  pub made : plan ≡ plan_of p kind

-- a plan shows the detailed tasks and the slots of a list, and who reads and writes which
pub record ShowsList (p : Problem) (list : List Task) (plan : Plan) : Type 0 where
  pub tasks : plan.tasks ≡ tasks_of_list p list
  pub slots : plan.slots ≡ slots_of_list p list
  pub reads : plan.graph.reads ≡ reads_of_list p list
  pub writes : plan.graph.writes ≡ writes_of_list p list
  pub many : plan.graph.tasks ≡ length (details_of p list)
