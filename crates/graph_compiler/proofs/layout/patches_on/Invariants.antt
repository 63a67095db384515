use Rattle.std.proofs.Common.{◌≡◌, ◌*◌, ◌≤◌, take}
use Rattle.task_check.specs.Sizes.{patches_on}
use Rattle.graph_compiler.proofs.layout.patches_on.Given as goal

abbrev pub invariant-loop-level : goal.invariant-loop-level
invariant-loop-level l = record {
  total : l.total ≡ patches_on l.p (take l.level-index l.levels);
  few : l.total ≤ l.level-index * 1024;
}
