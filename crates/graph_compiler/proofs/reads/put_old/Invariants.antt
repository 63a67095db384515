use Rattle.std.proofs.Common.{◌≡◌, ◌+◌, ◌++◌, map, take}
use Rattle.std.specs.Prelude.{slice_index}
use Rattle.graph_compiler.proofs.reads.put_old.Given as goal

abbrev pub invariant-loop-other : goal.invariant-loop-other
invariant-loop-other l = l.reads.items ≡ l.initial.reads.items ++ map (λ other. slice_index l.places (l.first + other)) (take l.other-index l.found)
