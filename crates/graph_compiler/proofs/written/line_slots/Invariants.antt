use Rattle.std.proofs.Common.{◌≡◌, map, take}
use Rattle.graph_compiler.specs.Written.{line_slot}
use Rattle.graph_compiler.proofs.written.line_slots.Given as goal

-- the slots of the lines so far are there
abbrev pub invariant-loop-w : goal.invariant-loop-w
invariant-loop-w l = l.slots ≡ map (line_slot l.earlier l.level l.material 0) (take l.w-index l.writes)
