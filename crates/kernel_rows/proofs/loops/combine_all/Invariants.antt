use Rattle.std.proofs.Common.{◌≡◌, ◌++◌, take, drop}
use Rattle.kernel_ast.specs.Value.{result_of}
use lib.Lanes.{zip2}
use Rattle.kernel_rows.proofs.loops.combine_all.Given as goal

abbrev pub invariant-loop-i : goal.invariant-loop-i
invariant-loop-i g l =
    l.out ≡ zip2 (result_of g.O.Operation.operator) (take l.i l.initial.out) (take l.i l.right) ++ drop l.i l.initial.out
