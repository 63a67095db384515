use Rattle.std.proofs.Common.{◌≡◌, ◌++◌, take, drop, map}
use Rattle.run_task.specs.Putting.{with_number}
use Rattle.run_task.proofs.gathering.give_number.Given as goal

abbrev pub invariant-loop-given : goal.invariant-loop-given
invariant-loop-given l =
    l.given-items ≡ map (with_number l.slot l.n) (take l.given-index l.initial.given-items) ++ drop l.given-index l.initial.given-items
