use Rattle.std.proofs.Common.{map, take}
use Rattle.problem_print.specs.Pages.{Adds}
use Rattle.problem_print.proofs.statements.put_statements.Given as goal

-- the statements so far
abbrev pub invariant-loop-statement : goal.invariant-loop-statement
invariant-loop-statement g l = Adds l.names (map g.S.Line.placed (take l.statement-index l.statements)) l.fn.page l.page
