use Rattle.std.proofs.Common.{◌≡◌, ◌++◌, map, filter}
use Rattle.uts_geom.specs.Spans.{counted}
use Rattle.problem_types.specs.Lists.{is_reduces}
use Rattle.task_check.specs.Plan.{line_is}
use Rattle.graph_compiler.specs.Reading.{part_slots}
use Rattle.graph_compiler.proofs.reads.put_lines.Given as goal

abbrev pub invariant-loop-line : goal.invariant-loop-line
invariant-loop-line l = l.all ≡ l.initial.all ++ map (part_slots l.layout) (filter (line_is l.t.writes (λ w. is_reduces w.kind)) (counted 0 l.line))
