use Rattle.std.proofs.Common.{map, take}
use Rattle.problem_types.specs.Lists.{task_list}
use Rattle.task_check.specs.Plan.{OldNumber}
use Rattle.graph_compiler.specs.Places.{ArePut}
use Rattle.graph_compiler.proofs.old_reads.put_numbers.Given as goal

abbrev pub invariant-loop-reduction : goal.invariant-loop-reduction
invariant-loop-reduction l = ArePut l.p (task_list l.p l.list) (map (λ q. OldNumber q.name) (take l.reduction-index l.p.reductions)) l.initial.marks.items l.marks.items l.initial.slots l.slots
