use Rattle.std.specs.List.{flat_map}
use Rattle.uts_geom.specs.Spans.{counted}
use Rattle.problem_types.specs.Lists.{task_list}
use Rattle.graph_compiler.specs.Places.{ArePut, of_level}
use Rattle.graph_compiler.proofs.old_reads.put_variable.Given as goal

abbrev pub invariant-loop-level : goal.invariant-loop-level
invariant-loop-level l = ArePut l.p (task_list l.p l.list) (flat_map (of_level l.p l.name) (counted 0 l.level)) l.initial.marks.items l.marks.items l.initial.slots l.slots
