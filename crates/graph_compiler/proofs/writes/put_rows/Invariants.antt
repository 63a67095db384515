use Rattle.std.proofs.Common.{◌≡◌, ◌++◌}
use Rattle.graph_compiler.specs.Layouts.{rows}
use Rattle.graph_compiler.proofs.writes.put_rows.Given as goal

abbrev pub invariant-loop-row : goal.invariant-loop-row
invariant-loop-row l = l.all ≡ l.initial.all ++ rows l.first l.count l.row
