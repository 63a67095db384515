-- The statements of a problem, each with its line, in the order of their lines.
use Rattle.std.specs.Prelude.{◌≡◌, ℕ, ◌≤◌, List, [], ◌∷◌, ◌++◌, length, map, All}
use Rattle.problem_types.specs.declared.problem.Problem.{Problem}
use Rattle.problem_types.specs.declared.problem.BoxLine.{BoxLine}
use Rattle.problem_types.specs.declared.problem.Level.{Level}
use Rattle.problem_types.specs.declared.problem.Var.{Var}
use Rattle.problem_types.specs.declared.problem.Reduction.{Reduction}
use Rattle.problem_types.specs.declared.problem.Require.{Require}
use Rattle.problem_types.specs.declared.problem.Write.{Write}
use Rattle.problem_types.specs.declared.problem.Task.{Task}
use Rattle.problem_types.specs.declared.problem.Keep.{Keep}
use Rattle.statement_parse.specs.declared.statement.Corners.{Corners}
use Rattle.statement_parse.specs.declared.statement.Statement.{Statement}
use Rattle.statement_parse.specs.declared.statement.Statement.TheVariants as statement

-- a statement and the number of its line
pub record Placed : Type 0 where
  pub line : ℕ
  pub statement : Statement

abbrev pub at : ℕ → Statement → Placed
at line s = record { line = line; statement = s }

abbrev pub corners_of : BoxLine → Corners
corners_of b = record { lo = b.lo; hi = b.hi }

abbrev pub box_statement : BoxLine → Placed
box_statement b = at b.line (statement.Box (corners_of b))

abbrev pub patch_statement : BoxLine → Placed
patch_statement b = at b.line (statement.Patch (corners_of b))

abbrev pub var_statement : Var → Placed
var_statement v = at v.line (statement.Var v.name v.centring v.outside)

abbrev pub reduction_statement : Reduction → Placed
reduction_statement q = at q.line (statement.Reduction q.name q.fold)

abbrev pub require_statement : Require → Placed
require_statement r = at r.line (statement.Require r.store r.what)

abbrev pub write_statement : Write → Placed
write_statement w = at w.line (statement.Write w.kind w.name w.expr)

abbrev pub keep_statement : Keep → Placed
keep_statement k = at k.line (statement.Keep k.name)

-- each level, its box and its patches, and what stands behind the levels
abbrev pub then_levels : List Level → List Placed → List Placed
then_levels [] rest = rest
then_levels (l ∷ levels) rest =
    at l.line (statement.Level l.ratio) ∷ (map box_statement l.boxes ++ (map patch_statement l.patches ++ then_levels levels rest))

-- each task, what it requires and what it writes, and what stands behind the tasks
abbrev pub then_tasks : List Task → List Placed → List Placed
then_tasks [] rest = rest
then_tasks (t ∷ tasks) rest =
    at t.line (statement.Task t.name t.levels t.materials)
    ∷ (map require_statement t.requirements ++ (map write_statement t.writes ++ then_tasks tasks rest))

-- the kept names, and the last statement
abbrev pub closing_statements : Problem → List Placed
closing_statements p = map keep_statement p.keeps ++ (at p.end_line statement.End ∷ [])

-- the two lists of tasks, and what stands behind them
abbrev pub task_statements : Problem → List Placed
task_statements p =
    at p.init_line statement.Init
    ∷ then_tasks p.init (at p.timestep_line statement.Timestep ∷ then_tasks p.timestep (closing_statements p))

-- the variables and the reductions, and what stands behind them
abbrev pub variable_statements : Problem → List Placed
variable_statements p = map var_statement p.vars ++ (map reduction_statement p.reductions ++ task_statements p)

unfoldable pub statements_of : Problem → List Placed
statements_of p =
    at p.version.line (statement.Version p.version.value)
    ∷ at p.steps.line (statement.Steps p.steps.value)
    ∷ at p.dump.line (statement.Dump p.dump.value)
    ∷ at p.ghost_limit.line (statement.Ghost p.ghost_limit.value)
    ∷ at p.materials.line (statement.Materials p.materials.value)
    ∷ then_levels p.levels (variable_statements p)

-- a level has one box and at least one patch
pub record IsWholeLevel (l : Level) : Type 0 where
  pub one_box : length l.boxes ≡ 1
  pub some_patch : 1 ≤ length l.patches

-- a task writes something
abbrev pub IsWholeTask : Task → Type 0
IsWholeTask t = 1 ≤ length t.writes

-- there is a level, and each level and each task is whole
pub record IsWhole (p : Problem) : Type 0 where
  pub some_level : 1 ≤ length p.levels
  pub levels : All IsWholeLevel p.levels
  pub init : All IsWholeTask p.init
  pub timestep : All IsWholeTask p.timestep
