use Rattle.std.proofs.Common.{◌≡◌, ◌++◌, ◌∷◌, [], take, if◌then◌else◌}
use Rattle.std.specs.List.{flat_map}
use Rattle.problem_types.specs.Lists.{is_reduces}
use Rattle.graph_compiler.specs.Written.{number_slot}
use Rattle.graph_compiler.proofs.written.put_numbers.Given as goal

-- the numbers of the lines so far are there
abbrev pub invariant-loop-w : goal.invariant-loop-w
invariant-loop-w l = l.slots ≡ l.fn.slots ++ flat_map (λ w. if is_reduces w.kind then number_slot w ∷ [] else []) (take l.w-index l.writes)
