use Rattle.std.proofs.Common.{◌≡◌, ◌++◌, take, drop}
use Rattle.std.specs.List.{zip}
use Rattle.kernel_rows.specs.Choice.{chosen}
use lib.Lanes.{zip2}
use Rattle.kernel_rows.proofs.loops.choose_all.Given as goal

abbrev pub invariant-loop-i : goal.invariant-loop-i
invariant-loop-i l =
    l.out ≡ zip2 chosen (take l.i l.initial.out) (take l.i (zip l.first l.second)) ++ drop l.i l.initial.out
