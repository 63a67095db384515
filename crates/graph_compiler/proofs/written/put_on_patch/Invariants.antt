use Rattle.std.proofs.Common.{◌≡◌, ◌++◌, map, take}
use Rattle.graph_compiler.specs.Written.{slot_on}
use Rattle.graph_compiler.proofs.written.put_on_patch.Given as goal

-- the slots of the lines so far are there, as they are on the patch
abbrev pub invariant-loop-line : goal.invariant-loop-line
invariant-loop-line l = l.slots ≡ l.fn.slots ++ map (slot_on l.patch) (take l.line-index l.lines)
