use Rattle.std.proofs.Common.{◌≡◌, ◌+◌, ◌*◌, ◌++◌, map, take}
use Rattle.graph_compiler.proofs.reads.put_new.Given as goal

abbrev pub invariant-loop-other : goal.invariant-loop-other
invariant-loop-other l = l.reads.items ≡ l.initial.reads.items ++ map (λ other. l.first + other * l.lines) (take l.other-index l.found)
