use Rattle.std.proofs.Common.{◌≡◌, ◌++◌, take}
use Rattle.std.specs.List.{flat_map}
use Rattle.graph_compiler.specs.Written.{on_level}
use Rattle.graph_compiler.proofs.written.put_levels.Given as goal

-- the slots on the levels so far are there
abbrev pub invariant-loop-level : goal.invariant-loop-level
invariant-loop-level l =
    l.slots ≡ l.fn.slots ++ flat_map (λ level. flat_map (on_level l.p l.earlier l.t.writes level) l.t.materials) (take l.level-index l.level-items)
