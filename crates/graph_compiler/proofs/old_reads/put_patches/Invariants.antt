use Rattle.std.specs.Prelude.{map}
use Rattle.uts_geom.specs.Spans.{counted}
use Rattle.problem_types.specs.Lists.{task_list}
use Rattle.task_check.specs.Plan.{Old}
use Rattle.graph_compiler.specs.Places.{ArePut}
use Rattle.graph_compiler.proofs.old_reads.put_patches.Given as goal

abbrev pub invariant-loop-patch : goal.invariant-loop-patch
invariant-loop-patch l = ArePut l.p (task_list l.p l.list) (map (Old l.name l.level l.material) (counted 0 l.patch)) l.initial.marks.items l.marks.items l.initial.slots l.slots
