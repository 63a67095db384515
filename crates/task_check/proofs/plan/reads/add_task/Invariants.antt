use Rattle.std.proofs.Common.{◌≡◌, ◌≤◌, ◌+◌, take}
use Rattle.std.specs.List.{sum_by}
use Rattle.task_check.specs.Reading.{level_reads}
use Rattle.task_check.specs.Kept.{AreRight}
use Rattle.task_check.proofs.plan.reads.add_task.Given as goal

abbrev pub invariant-loop-level : goal.invariant-loop-level
invariant-loop-level l = record {
  count : l.total ≡ l.before + sum_by (level_reads l.p l.t) (take l.level-index l.t.levels);
  few : l.total ≤ 2097152;
  kept : AreRight l.p l.touches.kept;
}
