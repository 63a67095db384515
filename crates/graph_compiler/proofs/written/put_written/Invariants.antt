use Rattle.std.proofs.Common.{◌≡◌, ◌++◌}
use Rattle.graph_compiler.proofs.TaskSlots.{slots_before}
use Rattle.graph_compiler.proofs.written.put_written.Given as goal

-- the slots of the tasks so far are there
abbrev pub invariant-loop-task : goal.invariant-loop-task
invariant-loop-task l = l.slots ≡ l.fn.slots ++ slots_before l.p l.tasks l.task
