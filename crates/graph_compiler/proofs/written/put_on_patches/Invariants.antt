use Rattle.std.proofs.Common.{◌≡◌, ◌++◌, map}
use Rattle.std.specs.List.{flat_map}
use Rattle.uts_geom.specs.Spans.{counted}
use Rattle.graph_compiler.specs.Written.{slot_on}
use Rattle.graph_compiler.proofs.written.put_on_patches.Given as goal

-- the slots on the patches so far are there
abbrev pub invariant-loop-patch : goal.invariant-loop-patch
invariant-loop-patch l = l.slots ≡ l.fn.slots ++ flat_map (λ patch. map (slot_on patch) l.lines) (counted 0 l.patch)
