use Rattle.std.proofs.Common.{◌≡◌, ◌++◌, take}
use Rattle.uts_model.specs.Dump.{spaced_numbers}
use Rattle.dump_text.proofs.lines.put_spaced.Given as goal

-- the numbers so far
abbrev pub invariant-loop-number : goal.invariant-loop-number
invariant-loop-number l = l.line.items ≡ l.fn.line.items ++ spaced_numbers (take l.number-index l.numbers)
