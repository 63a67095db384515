use Rattle.std.proofs.Common.{◌≡◌, drop, map}
use Rattle.problem_types.specs.Ascent.{last_ascending}
use Rattle.problem_types.proofs.lines.last_of.Given as goal

-- the statements that are left follow the last line
abbrev pub invariant-loop-statement : goal.invariant-loop-statement
invariant-loop-statement g l = last_ascending l.fn.after (map g.S.Statement.line_of l.statements)
    ≡ last_ascending l.last (map g.S.Statement.line_of (drop l.statement-index l.statements))
