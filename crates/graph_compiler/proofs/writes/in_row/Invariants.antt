use Rattle.std.proofs.Common.{◌≡◌}
use Rattle.uts_geom.specs.Spans.{counted}
use Rattle.graph_compiler.proofs.writes.in_row.Given as goal

abbrev pub invariant-loop-k : goal.invariant-loop-k
invariant-loop-k l = l.slots ≡ counted l.first l.k
