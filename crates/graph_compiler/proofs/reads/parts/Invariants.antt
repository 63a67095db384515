use Rattle.std.proofs.Common.{◌≡◌, ◌+◌, ◌*◌, map}
use Rattle.uts_geom.specs.Spans.{counted}
use Rattle.graph_compiler.proofs.reads.parts.Given as goal

abbrev pub invariant-loop-part : goal.invariant-loop-part
invariant-loop-part l = l.slots ≡ map (λ part. l.layout.first + (part * l.layout.lines + l.line)) (counted 0 l.part)
