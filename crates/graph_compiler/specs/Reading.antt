-- The slots that the detailed tasks of a list read, task by task.
use Rattle.std.specs.Prelude.{ℕ, ◌+◌, ◌*◌, List, filter, length, map}
use Rattle.uts_geom.specs.Spans.{counted}
use Rattle.problem_types.specs.Lists.{is_reduces}
use Rattle.problem_types.specs.declared.problem.Problem.{Problem}
use Rattle.problem_types.specs.declared.problem.Task.{Task}
use Rattle.task_check.specs.Plan.{Detail, OnPatch, line_is, patches_of, reads, slots_of}
use Rattle.graph_compiler.specs.Plan.{places_of}
use Rattle.graph_compiler.specs.declared.layout.Layout.{Layout}

-- the places of the slots that a detailed task reads
abbrev pub places_read : Problem → List Task → Detail → List ℕ
places_read p tasks d = places_of (reads p tasks d) (slots_of p tasks)

-- the detailed tasks of a task on the patches of a level, for a material
abbrev pub details_on : Problem → (task level material : ℕ) → List Detail
details_on p task level material = map (OnPatch task level material) (patches_of p level)

-- where the parts of a line stand
abbrev pub part_slots : Layout → (line : ℕ) → List ℕ
part_slots layout line = map (λ part. layout.first + (part * layout.lines + line)) (counted 0 layout.parts)

-- the lines of a task that reduce
abbrev pub reducing_lines : Task → List ℕ
reducing_lines t = filter (line_is t.writes (λ w. is_reduces w.kind)) (counted 0 (length t.writes))
