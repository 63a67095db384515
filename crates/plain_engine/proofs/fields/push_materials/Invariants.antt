use Rattle.std.proofs.Common.{◌≡◌, ◌++◌, map, take}
use Rattle.plain_engine.specs.Changes.{written_of}
use Rattle.plain_engine.specs.Moments.{problem_at, field_change_at}
use Rattle.plain_engine.proofs.fields.push_materials.Given as goal

-- the fields of the materials so far are there
abbrev pub invariant-loop-material : goal.invariant-loop-material
invariant-loop-material l =
    l.fields ≡ l.fn.fields ++ map (written_of (problem_at l.moment)) (map (field_change_at l.moment l.write l.level) (take l.material-index l.material-items))
