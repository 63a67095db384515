use Rattle.std.proofs.Common.{◌≡◌, []}
use Rattle.std.specs.Prelude.{replicate}
use Rattle.graph_types.proofs.links.no_successors.Given as goal

abbrev pub invariant-loop : goal.invariant-loop
invariant-loop l = l.none.items ≡ replicate l.counter []
