use Rattle.std.proofs.Common.{◌≡◌, drop}
use Rattle.std.specs.List.{flat_map}
use Rattle.problem_types.specs.Ascent.{last_ascending}
use Rattle.problem_types.specs.Form.{level_lines}
use Rattle.problem_types.proofs.lines.last_of_levels.Given as goal

-- the levels that are left follow the last line
abbrev pub invariant-loop-level : goal.invariant-loop-level
invariant-loop-level l = last_ascending l.fn.after (flat_map level_lines l.levels)
    ≡ last_ascending l.last (flat_map level_lines (drop l.level-index l.levels))
