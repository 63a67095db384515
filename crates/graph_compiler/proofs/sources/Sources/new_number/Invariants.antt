use Rattle.graph_compiler.proofs.Asked.{HaveNoNumber}
use Rattle.graph_compiler.proofs.sources.Sources.new_number.Given as goal

abbrev pub invariant-loop-place : goal.invariant-loop-place
invariant-loop-place l = HaveNoNumber l.self.tasks.now l.name l.place
