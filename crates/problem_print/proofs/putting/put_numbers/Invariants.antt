use Rattle.std.proofs.Common.{◌≡◌, ◌++◌, take}
use Rattle.problem_print.specs.Printed.{numbers_text}
use Rattle.problem_print.proofs.putting.put_numbers.Given as goal

-- the numbers so far
abbrev pub invariant-loop-n : goal.invariant-loop-n
invariant-loop-n l = l.out.items ≡ l.fn.out.items ++ numbers_text (take l.n-index l.numbers)
