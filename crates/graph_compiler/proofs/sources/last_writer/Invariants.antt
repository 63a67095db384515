use Rattle.std.proofs.Common.{take}
use Rattle.task_check.specs.Plan.{writes_variable}
use Rattle.graph_compiler.specs.Sources.{IsLast}
use Rattle.graph_compiler.proofs.sources.last_writer.Given as goal

abbrev pub invariant-loop-place : goal.invariant-loop-place
invariant-loop-place l = IsLast (writes_variable l.name l.material l.level) (take l.place l.tasks) l.last
