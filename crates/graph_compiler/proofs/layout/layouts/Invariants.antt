use Rattle.graph_compiler.proofs.Laying.{AreLaidBefore}
use Rattle.graph_compiler.proofs.layout.layouts.Given as goal

abbrev pub invariant-loop-t : goal.invariant-loop-t
invariant-loop-t l = AreLaidBefore l.p l.tasks l.t-index l.first l.layouts
