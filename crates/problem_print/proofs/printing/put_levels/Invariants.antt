use Rattle.std.proofs.Common.{List, ℕ, take}
use Rattle.std.specs.List.{flat_map}
use Rattle.problem_print.specs.Pages.{Adds, level_statements}
use Rattle.problem_print.proofs.printing.put_levels.Given as goal

-- the statements so far
abbrev pub invariant-loop-level : goal.invariant-loop-level
invariant-loop-level l = (names : List (List ℕ)) → Adds names (flat_map level_statements (take l.level-index l.levels)) l.fn.page l.page
