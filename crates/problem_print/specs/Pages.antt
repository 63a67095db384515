-- Lines that are put on a page.
use Rattle.std.specs.Prelude.{◌≡◌, ℕ, suc, ◌-◌, List, [], ◌∷◌, ◌++◌, map, replicate}
use Rattle.std.specs.List.{flat_map}
use Rattle.kernel_parse.specs.Grammar.{Words}
use Rattle.problem_types.specs.declared.problem.Problem.{Problem}
use Rattle.problem_types.specs.declared.problem.Level.{Level}
use Rattle.problem_types.specs.declared.problem.Task.{Task}
use Rattle.statement_parse.specs.declared.statement.Statement.TheVariants as statement
use Rattle.problem_file.specs.Statements.{Placed, at, box_statement, patch_statement, var_statement, reduction_statement, require_statement, write_statement, keep_statement}
use Rattle.problem_print.specs.Printed.{lines_text}
use Rattle.problem_print.specs.declared.page.Page.{Page}

-- the line of the last statement, or the line before the first
abbrev pub last_line : ℕ → List Placed → ℕ
last_line last [] = last
last_line last (s ∷ ss) = last_line s.line ss

-- new is old and behind it some empty lines and the line with this number, which is `bytes`
pub record AddsLine (bytes : List ℕ) (number : ℕ) (old new : Page) : Type 0 where
  pub text : new.text.items ≡ old.text.items ++ (replicate (number - suc old.line) 10 ++ (bytes ++ 10 ∷ []))
  pub line : new.line ≡ number

-- new is old and behind it these statements on their lines
pub record Adds (names : Words) (ss : List Placed) (old new : Page) : Type 0 where
  pub text : new.text.items ≡ old.text.items ++ lines_text names old.line ss
  pub line : new.line ≡ last_line old.line ss

-- ---- the statements of a problem, by parts

abbrev pub head_statements : Problem → List Placed
head_statements p =
    at p.version.line (statement.Version p.version.value)
    ∷ at p.steps.line (statement.Steps p.steps.value)
    ∷ at p.dump.line (statement.Dump p.dump.value)
    ∷ at p.ghost_limit.line (statement.Ghost p.ghost_limit.value)
    ∷ at p.materials.line (statement.Materials p.materials.value)
    ∷ []

abbrev pub level_statements : Level → List Placed
level_statements l = at l.line (statement.Level l.ratio) ∷ (map box_statement l.boxes ++ map patch_statement l.patches)

abbrev pub task_statement : Task → Placed
task_statement t = at t.line (statement.Task t.name t.levels t.materials)

abbrev pub task_statements : Task → List Placed
task_statements t = task_statement t ∷ (map require_statement t.requirements ++ map write_statement t.writes)

-- what stands before the tasks
abbrev pub declarations : Problem → List Placed
declarations p =
    head_statements p ++ (flat_map level_statements p.levels ++ (map var_statement p.vars ++ map reduction_statement p.reductions))

-- the tasks and what stands behind them
abbrev pub schedule : Problem → List Placed
schedule p =
    at p.init_line statement.Init ∷ (flat_map task_statements p.init
    ++ (at p.timestep_line statement.Timestep ∷ (flat_map task_statements p.timestep
    ++ (map keep_statement p.keeps ++ (at p.end_line statement.End ∷ [])))))
