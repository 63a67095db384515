-- How far statements come, where their lines ascend strictly and their names are numbered as they appear.
use Rattle.std.specs.Prelude.{ℕ, nat_lt, List, [], ◌∷◌, ◌++◌, map, Option, Some, None, option_map, option_and_then, if◌then◌else◌}
use Rattle.std.specs.List.{flat_map}
use Rattle.problem_types.specs.declared.problem.Problem.{Problem}
use Rattle.problem_types.specs.declared.problem.BoxLine.{BoxLine}
use Rattle.problem_types.specs.declared.problem.Level.{Level}
use Rattle.problem_types.specs.declared.problem.Var.{Var}
use Rattle.problem_types.specs.declared.problem.Reduction.{Reduction}
use Rattle.problem_types.specs.declared.problem.Require.{Require}
use Rattle.problem_types.specs.declared.problem.Write.{Write}
use Rattle.problem_types.specs.declared.problem.Task.{Task}
use Rattle.problem_types.specs.declared.problem.Keep.{Keep}
use Rattle.problem_printable.specs.Numbering.{known_behind, what_names, expression_names}
use Rattle.problem_printable.specs.declared.progress.Progress.{Progress}

-- the line of a statement, and the names that it has in the order of its text
pub record Mark : Type 0 where
  pub line : ℕ
  pub names : List ℕ

abbrev pub mark : ℕ → List ℕ → Mark
mark line names = record { line = line; names = names }

abbrev pub reached : ℕ → ℕ → Progress
reached line known = record { line = line; known = known }

-- a further statement on a line, behind which so many names are known
abbrev pub next_progress : Progress → ℕ → Option ℕ → Option Progress
next_progress before line known = if nat_lt before.line line then option_map (reached line) known else None

-- how far some statements come from behind others
abbrev pub progress_behind : Progress → List Mark → Option Progress
progress_behind before [] = Some before
progress_behind before (m ∷ ms) =
    option_and_then (λ behind. progress_behind behind ms) (next_progress before m.line (known_behind before.known m.names))

abbrev pub box_mark : BoxLine → Mark
box_mark b = mark b.line []

abbrev pub var_mark : Var → Mark
var_mark v = mark v.line (v.name ∷ [])

abbrev pub reduction_mark : Reduction → Mark
reduction_mark q = mark q.line (q.name ∷ [])

abbrev pub require_mark : Require → Mark
require_mark r = mark r.line (what_names r.what)

abbrev pub write_mark : Write → Mark
write_mark w = mark w.line (w.name ∷ expression_names w.expr)

abbrev pub keep_mark : Keep → Mark
keep_mark k = mark k.line (k.name ∷ [])

-- a level, its box and its patches
abbrev pub level_marks : Level → List Mark
level_marks l = mark l.line [] ∷ (map box_mark l.boxes ++ map box_mark l.patches)

-- a task, what it requires and what it writes
abbrev pub task_marks : Task → List Mark
task_marks t = mark t.line (t.name ∷ []) ∷ (map require_mark t.requirements ++ map write_mark t.writes)

-- the statements up to the variables
unfoldable pub grid_marks : Problem → List Mark
grid_marks p =
    mark p.version.line [] ∷ mark p.steps.line [] ∷ mark p.dump.line [] ∷ mark p.ghost_limit.line [] ∷ mark p.materials.line []
    ∷ flat_map level_marks p.levels

-- the kept names and the last statement
abbrev pub closing_marks : Problem → List Mark
closing_marks p = map keep_mark p.keeps ++ (mark p.end_line [] ∷ [])

-- the statements from the timestep list on
unfoldable pub timestep_marks : Problem → List Mark
timestep_marks p = mark p.timestep_line [] ∷ (flat_map task_marks p.timestep ++ closing_marks p)

-- the statements from the init list on
abbrev pub schedule_marks : Problem → List Mark
schedule_marks p = mark p.init_line [] ∷ (flat_map task_marks p.init ++ timestep_marks p)

-- all statements
unfoldable pub problem_marks : Problem → List Mark
problem_marks p = grid_marks p ++ (map var_mark p.vars ++ (map reduction_mark p.reductions ++ schedule_marks p))
