use Rattle.run_task.specs.Putting.{IsWithField}
use Rattle.run_task.proofs.Walked.{AreWalked}
use Rattle.run_task.proofs.gathering.put_field.Given as goal

abbrev pub invariant-loop-part : goal.invariant-loop-part
invariant-loop-part l = AreWalked (IsWithField l.slot l.field l.level) l.initial.part-items l.part-items l.part-index
