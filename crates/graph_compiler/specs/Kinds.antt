-- The kinds of steps.
use Rattle.std.specs.Prelude.{ℕ, zero, suc, List, nat_lt}
use Rattle.problem_types.specs.Lists.{is_dumped}
use Rattle.problem_types.specs.declared.problem.Problem.{Problem}
use Rattle.problem_types.specs.declared.problem.Task.{Task}
use Rattle.graph_compiler.specs.declared.plan.ListKind.{ListKind}
use Rattle.graph_compiler.specs.declared.plan.ListKind.TheVariants as list
use Rattle.graph_compiler.specs.declared.plan.StepKind.{StepKind}

-- the tasks of a list
abbrev pub tasks_in : Problem → ListKind → List Task
tasks_in p list.Init = p.init
tasks_in p list.Timestep = p.timestep

-- the list of a step
abbrev pub list_at : ℕ → ListKind
list_at zero = list.Init
list_at (suc n) = list.Timestep

-- the kind of a step: its list, whether a step follows, and whether the dump shows it
abbrev pub kind_at : Problem → ℕ → StepKind
kind_at p step = record { list = list_at step; next = nat_lt step p.steps.value; dump = is_dumped p step }

-- the number of a list: 0 for the list of step 0, 1 for that of each later step
abbrev pub list_number : ListKind → ℕ
list_number list.Init = 0
list_number list.Timestep = 1
