use Rattle.std.proofs.Common.{◌≡◌, take}
use Rattle.uts_model.specs.Dump.{row_text}
use Rattle.dump_text.proofs.lines.put_row.Given as goal

-- the text of the numbers so far
abbrev pub invariant-loop-count : goal.invariant-loop-count
invariant-loop-count l = l.line.items ≡ row_text (take l.count l.numbers)
