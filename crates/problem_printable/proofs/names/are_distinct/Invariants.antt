use Rattle.std.proofs.Common.{take}
use Rattle.problem_printable.proofs.Distinct.{HasSeen}
use Rattle.problem_printable.proofs.names.are_distinct.Given as goal

-- the names so far are distinct and in the set
abbrev pub invariant-loop-name : goal.invariant-loop-name
invariant-loop-name l = HasSeen l.seen (take l.name-index l.names)
