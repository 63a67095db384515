use Rattle.std.specs.List.{flat_map}
use Rattle.uts_geom.specs.Spans.{counted}
use Rattle.problem_types.specs.Lists.{task_list}
use Rattle.graph_compiler.specs.Places.{ArePut, of_material}
use Rattle.graph_compiler.proofs.old_reads.put_level.Given as goal

abbrev pub invariant-loop-material : goal.invariant-loop-material
invariant-loop-material l = ArePut l.p (task_list l.p l.list) (flat_map (of_material l.p l.name l.level) (counted 0 l.material)) l.initial.marks.items l.marks.items l.initial.slots l.slots
