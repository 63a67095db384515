use Rattle.std.proofs.Common.{◌≡◌}
use Rattle.graph_types.proofs.Linking.{uses_before}
use Rattle.graph_types.proofs.uses.uses_of.Given as goal

abbrev pub invariant-loop-slot : goal.invariant-loop-slot
invariant-loop-slot l = l.uses ≡ uses_before l.g l.slot
