use Rattle.std.proofs.Common.{◌≡◌, ◌≤◌, take}
use Rattle.std.specs.List.{sum_by}
use Rattle.problem_types.specs.Lists.{task_list}
use Rattle.task_check.specs.Reading.{task_reads}
use Rattle.task_check.specs.Kept.{AreRight}
use Rattle.task_check.proofs.plan.reads.read_count.Given as goal

abbrev pub invariant-loop-t : goal.invariant-loop-t
invariant-loop-t l = record {
  count : l.total ≡ sum_by (task_reads l.p) (take l.t-index (task_list l.p l.list));
  few : l.total ≤ 2097152;
  kept : AreRight l.p l.touches.kept;
}
