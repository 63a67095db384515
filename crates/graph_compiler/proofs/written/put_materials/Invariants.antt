use Rattle.std.proofs.Common.{◌≡◌, ◌++◌, take}
use Rattle.std.specs.List.{flat_map}
use Rattle.graph_compiler.specs.Written.{on_level}
use Rattle.graph_compiler.proofs.written.put_materials.Given as goal

-- the slots for the materials so far are there
abbrev pub invariant-loop-material : goal.invariant-loop-material
invariant-loop-material l = l.slots ≡ l.fn.slots ++ flat_map (on_level l.p l.earlier l.t.writes l.level) (take l.material-index l.material-items)
