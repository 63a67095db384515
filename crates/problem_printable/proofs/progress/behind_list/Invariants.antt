use Rattle.std.proofs.Common.{◌≡◌, drop, map}
use Rattle.problem_printable.specs.Progress.{progress_behind}
use Rattle.problem_printable.proofs.progress.behind_list.Given as goal

-- the statements that are left follow the last one
abbrev pub invariant-loop-statement : goal.invariant-loop-statement
invariant-loop-statement g l = progress_behind l.fn.before (map g.S.Statement.mark_of l.statements)
    ≡ progress_behind l.last (map g.S.Statement.mark_of (drop l.statement-index l.statements))
