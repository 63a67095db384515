use Rattle.std.proofs.Common.{◌≡◌, [], ◌∷◌, take, if◌then◌else◌}
use Rattle.std.specs.List.{flat_map}
use Rattle.problem_types.specs.Lists.{is_reduces}
use Rattle.plain_engine.specs.Moments.{line_number_at}
use Rattle.plain_engine.proofs.numbers.written_numbers.Given as goal

-- the numbers of the lines so far are there
abbrev pub invariant-loop-write : goal.invariant-loop-write
invariant-loop-write l =
    l.numbers ≡ flat_map (λ w. if is_reduces w.kind then line_number_at l.moment l.task w ∷ [] else []) (take l.write-index l.write-items)
