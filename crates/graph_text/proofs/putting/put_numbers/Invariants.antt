use Rattle.std.proofs.Common.{◌≡◌, ◌++◌, take}
use Rattle.graph_text.specs.Listing.{labelled_all}
use Rattle.graph_text.proofs.putting.put_numbers.Given as goal

-- the label, and the numbers so far
abbrev pub invariant-loop-number : goal.invariant-loop-number
invariant-loop-number l = l.line.items ≡ l.fn.line.items ++ labelled_all l.label (take l.number-index l.numbers)
