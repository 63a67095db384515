use Rattle.std.proofs.Common.{take}
use Rattle.graph_text.specs.Predecessors.{IsNotedAt}
use Rattle.graph_text.proofs.predecessors.note.Given as goal

-- noted at the successors so far
abbrev pub invariant-loop-successor : goal.invariant-loop-successor
invariant-loop-successor l = IsNotedAt l.task (take l.successor-index l.successors) l.initial.lists l.lists
