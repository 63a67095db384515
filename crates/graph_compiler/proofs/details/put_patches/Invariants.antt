use Rattle.std.proofs.Common.{◌≡◌, ◌++◌, map}
use Rattle.uts_geom.specs.Spans.{counted}
use Rattle.task_check.specs.Plan.{OnPatch}
use Rattle.graph_compiler.specs.Shown.{shown_task}
use Rattle.graph_compiler.proofs.details.put_patches.Given as goal

-- the detailed tasks on the patches so far are there
abbrev pub invariant-loop-patch : goal.invariant-loop-patch
invariant-loop-patch l = l.details ≡ l.fn.details ++ map shown_task (map (OnPatch l.task l.level l.material) (counted 0 l.patch))
