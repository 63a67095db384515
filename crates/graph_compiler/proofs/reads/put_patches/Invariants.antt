use Rattle.std.proofs.Common.{◌≡◌, ◌++◌, map}
use Rattle.uts_geom.specs.Spans.{counted}
use Rattle.task_check.specs.Plan.{OnPatch}
use Rattle.graph_compiler.specs.Reading.{places_read}
use Rattle.graph_compiler.proofs.reads.put_patches.Given as goal

abbrev pub invariant-loop-patch : goal.invariant-loop-patch
invariant-loop-patch l = l.all ≡ l.initial.all ++ map (places_read l.s.problem.now l.s.tasks.now) (map (OnPatch l.task l.level l.material) (counted 0 l.patch))
