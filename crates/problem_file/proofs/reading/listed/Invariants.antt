use Rattle.std.proofs.Common.{◌≡◌, take}
use Rattle.problem_file.proofs.reading.listed.Given as goal

abbrev pub invariant-loop-number : goal.invariant-loop-number
invariant-loop-number l = l.list ≡ take l.number l.names
