use Rattle.std.proofs.Common.{◌≡◌, drop}
use Rattle.std.specs.List.{flat_map}
use Rattle.problem_printable.specs.Progress.{progress_behind, level_marks}
use Rattle.problem_printable.proofs.progress.behind_levels.Given as goal

-- the levels that are left follow the last one
abbrev pub invariant-loop-level : goal.invariant-loop-level
invariant-loop-level l = progress_behind l.fn.before (flat_map level_marks l.levels)
    ≡ progress_behind l.last (flat_map level_marks (drop l.level-index l.levels))
