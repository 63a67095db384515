use Rattle.std.proofs.Common.{◌-◌, length}
use Rattle.problem_file.specs.Progress.{IsReadTo}
use Rattle.problem_file.proofs.reading.read_all.Given as goal

abbrev pub invariant-loop-start : goal.invariant-loop-start
invariant-loop-start l = IsReadTo l.text l.start l.lines l.names l.draft

abbrev pub decreases-loop-start : goal.decreases-loop-start
decreases-loop-start l = length l.text - l.start
