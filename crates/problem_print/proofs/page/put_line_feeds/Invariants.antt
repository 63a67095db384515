use Rattle.std.proofs.Common.{◌≡◌, ◌++◌, replicate}
use Rattle.problem_print.proofs.page.put_line_feeds.Given as goal

-- the line feeds so far
abbrev pub invariant-loop-so_far : goal.invariant-loop-so_far
invariant-loop-so_far l = l.out.items ≡ l.fn.out.items ++ replicate l._so_far 10
