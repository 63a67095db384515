use Rattle.std.proofs.Common.{◌≡◌, ◌++◌, map, take}
use Rattle.std.specs.List.{flat_map}
use Rattle.plain_engine.specs.Changes.{written_of}
use Rattle.plain_engine.specs.Moments.{problem_at, field_change_at}
use Rattle.plain_engine.proofs.fields.push_levels.Given as goal

-- the fields of the levels so far are there
abbrev pub invariant-loop-level : goal.invariant-loop-level
invariant-loop-level l =
    l.fields ≡ l.fn.fields ++ map (written_of (problem_at l.moment))
    (flat_map (λ level. map (field_change_at l.moment l.write level) l.task.materials) (take l.level-index l.level-items))
