use Rattle.std.proofs.Common.{◌≡◌, [], map, take, if◌then◌else◌}
use Rattle.std.specs.List.{flat_map}
use Rattle.problem_types.specs.Lists.{is_of_field}
use Rattle.plain_engine.specs.Changes.{written_of}
use Rattle.plain_engine.specs.Moments.{problem_at, line_changes_at}
use Rattle.plain_engine.proofs.fields.written_fields.Given as goal

-- the fields of the lines so far are there
abbrev pub invariant-loop-write : goal.invariant-loop-write
invariant-loop-write l =
    l.fields ≡ map (written_of (problem_at l.moment))
    (flat_map (λ w. if is_of_field w.kind then line_changes_at l.moment l.task w else []) (take l.write-index l.write-items))
