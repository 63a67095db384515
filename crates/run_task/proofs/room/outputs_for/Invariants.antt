use Rattle.std.proofs.Common.{take}
use Rattle.run_task.specs.Gathered.{AreRoomFor}
use Rattle.run_task.proofs.room.outputs_for.Given as goal

-- there is room for the lines so far
abbrev pub invariant-loop-write : goal.invariant-loop-write
invariant-loop-write l = AreRoomFor l.job.checked.now l.site (take l.write-index l.write-items) l.outputs.items
