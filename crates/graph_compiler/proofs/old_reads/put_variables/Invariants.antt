use Rattle.std.proofs.Common.{take}
use Rattle.std.specs.List.{flat_map}
use Rattle.problem_types.specs.Lists.{task_list}
use Rattle.graph_compiler.specs.Places.{ArePut, of_variable}
use Rattle.graph_compiler.proofs.old_reads.put_variables.Given as goal

abbrev pub invariant-loop-variable : goal.invariant-loop-variable
invariant-loop-variable l = ArePut l.p (task_list l.p l.list) (flat_map (λ v. of_variable l.p v.name) (take l.variable-index l.p.vars)) l.initial.marks.items l.marks.items l.initial.slots l.slots
