use Rattle.std.proofs.Common.{◌≡◌, take}
use Rattle.problem_types.proofs.copying.copy_levels.Given as goal

-- the levels so far are copied
abbrev pub invariant-loop-level : goal.invariant-loop-level
invariant-loop-level l = l.copied ≡ take l.level-index l.levels
