use Rattle.std.proofs.Common.{◌≡◌, ◌++◌, map, filter}
use Rattle.uts_geom.specs.Spans.{counted}
use Rattle.problem_types.specs.Lists.{is_reduces}
use Rattle.task_check.specs.Plan.{Combining, line_is}
use Rattle.graph_compiler.specs.Shown.{shown_task}
use Rattle.graph_compiler.proofs.details.put_combining.Given as goal

-- the detailed tasks that combine for the lines so far are there
abbrev pub invariant-loop-line : goal.invariant-loop-line
invariant-loop-line l =
    l.details ≡ l.fn.details ++ map shown_task (map (Combining l.task) (filter (line_is l.writes (λ w. is_reduces w.kind)) (counted 0 l.line)))
