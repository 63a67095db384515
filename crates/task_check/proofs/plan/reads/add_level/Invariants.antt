use Rattle.std.proofs.Common.{◌≡◌, ◌≤◌, ◌+◌, ◌*◌, length, take}
use Rattle.std.specs.List.{sum_by}
use Rattle.task_check.specs.Reading.{requirement_reads}
use Rattle.task_check.specs.Kept.{AreRight}
use Rattle.task_check.proofs.plan.reads.add_level.Given as goal

abbrev pub invariant-loop-r : goal.invariant-loop-r
invariant-loop-r l = record {
  count : l.total ≡ l.before + sum_by (λ r. length l.t.materials * requirement_reads l.p l.t l.level r) (take l.r-index l.t.requirements);
  few : l.total ≤ 2097152;
  kept : AreRight l.p l.touches.kept;
}
