use Rattle.std.proofs.Common.{List, ℕ, map, take}
use Rattle.problem_file.specs.Statements.{box_statement}
use Rattle.problem_print.specs.Pages.{Adds}
use Rattle.problem_print.proofs.printing.put_boxes.Given as goal

-- the statements so far
abbrev pub invariant-loop-corners : goal.invariant-loop-corners
invariant-loop-corners l = (names : List (List ℕ)) → Adds names (map box_statement (take l.corners-index l.boxes)) l.fn.page l.page
