use Rattle.std.proofs.Common.{◌≡◌, ◌++◌, take, drop, map, pos}
use Rattle.kernel_ast.specs.Arithmetic.{difference_of}
use Rattle.kernel_rows.proofs.loops.negate_all.Given as goal

abbrev pub invariant-loop-number : goal.invariant-loop-number
invariant-loop-number l =
    l.out ≡ map (difference_of (pos 0)) (take l.number-index l.initial.out) ++ drop l.number-index l.initial.out
