use Rattle.std.proofs.Common.{◌≡◌, ◌++◌, map, take}
use Rattle.graph_text.proofs.whole.push_lines.Given as goal

-- the lines so far are there
abbrev pub invariant-loop-number : goal.invariant-loop-number
invariant-loop-number l = map (λ line. line.items) l.lines.items ≡ map (λ line. line.items) l.fn.lines.items ++ take l.number l.of_plan
