-- How many slots the detailed tasks of a task read.
use Rattle.std.specs.Prelude.{◌≡◌, ℕ, ◌+◌, ◌*◌, ◌<◌, ◌≤◌, Option, Some, None, length}
use Rattle.std.specs.List.{sum_by}
use Rattle.std.specs.Option.{option_map_or}
use Rattle.problem_types.specs.Lists.{centring_of}
use Rattle.problem_types.specs.declared.problem.Problem.{Problem}
use Rattle.problem_types.specs.declared.problem.Task.{Task}
use Rattle.problem_types.specs.declared.problem.Require.{Require}
use Rattle.task_rules.specs.Lines.{wanted_name}
use Rattle.task_check.specs.Plan.{patches_of}
use Rattle.task_check.specs.Sizes.{reduces_count, part_count}
use Rattle.task_check.specs.Reaches.{reach_of, touch_count}

-- how many slots a requirement of the task reads for a material on a level: of a variable those that its windows touch, of a
-- reduction its number, for each patch
abbrev pub requirement_reads : Problem → Task → (level : ℕ) → Require → ℕ
requirement_reads p t level r = option_map_or (λ reach. touch_count p level reach (centring_of p (wanted_name r.what))) (reach_of t r.store r.what) (length (patches_of p level))

-- how many the requirements of the task read on a level, for all its materials
abbrev pub level_reads : Problem → Task → (level : ℕ) → ℕ
level_reads p t level = sum_by (λ r. length t.materials * requirement_reads p t level r) t.requirements

-- how many the task reads on patches, and how many parts it combines
abbrev pub patch_reads : Problem → Task → ℕ
patch_reads p t = sum_by (level_reads p t) t.levels

abbrev pub part_reads : Problem → Task → ℕ
part_reads p t = reduces_count t.writes * part_count p t

abbrev pub task_reads : Problem → Task → ℕ
task_reads p t = patch_reads p t + part_reads p t

-- the count as far as it is within the limit on reads, nothing where it is above
abbrev pub IsUpToLimit : ℕ → Option ℕ → Type 0
IsUpToLimit n None = 2097152 < n
IsUpToLimit n (Some m) = (m ≡ n) × (n ≤ 2097152)
