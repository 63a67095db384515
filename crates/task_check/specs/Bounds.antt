-- How large an accepted problem is at most, and that it has what its lines name.
use Rattle.std.specs.Prelude.{◌≡◌, ◌⊎◌, ℕ, ◌+◌, ◌<◌, ◌≤◌, slice_get, Some, length, All, Contains, List}
use Rattle.problem_types.specs.Levels.{KeepsGridLimits}
use Rattle.problem_types.specs.declared.problem.Problem.{Problem}
use Rattle.problem_types.specs.declared.problem.Level.{Level}
use Rattle.problem_types.specs.declared.problem.Task.{Task}
use Rattle.problem_types.specs.declared.problem.Require.{Require}
use Rattle.grid_levels.specs.Good.{IsGood}
use Rattle.task_rules.specs.Lines.{wanted_level}
use Rattle.task_rules.specs.Names.{IsVariable, IsReduction, IsKnown, AreNamesKnown, WantsMissingLevel}
use Rattle.task_check.specs.Lines.{cell_count}
use Rattle.task_check.specs.Supplies.{IsAllSupplied, layers_of}

-- the level `l` of this number is good and within the limits of the grid
pub record IsBoundedLevel (p : Problem) (level : ℕ) (l : Level) : Type 0 where
  pub limits : KeepsGridLimits l
  pub good : IsGood p level l
  pub cells : cell_count l ≤ 262144

-- what a task requires asks for few layers, is declared, and is on a level that the problem has, from each level of the task
pub record IsBoundedRequire (p : Problem) (t : Task) (r : Require) : Type 0 where
  pub few : layers_of r.what ≤ 8
  pub known : IsKnown p r.what
  pub none_missing : WantsMissingLevel (length p.levels) t.levels r.what → ⊥
  pub wanted : (level : ℕ) → Contains t.levels level → wanted_level r.what level < length p.levels

-- The task runs on levels and materials that the problem has, its lines are few, each name of a line that it writes is declared, and it
-- requires all that the kernels of these lines read.
pub record IsBoundedTask (p : Problem) (t : Task) : Type 0 where
  pub levels : All (λ level. level < length p.levels) t.levels
  pub materials : All (λ material. material < p.materials.value) t.materials
  pub names : All (AreNamesKnown p) t.writes
  pub few_lines : length t.requirements + length t.writes ≤ 64
  pub requirements : All (IsBoundedRequire p t) t.requirements
  pub supplied : All (IsAllSupplied p t) t.writes

-- the tasks of a list are few, and each is such a task
pub record AreBoundedTasks (p : Problem) (all : List Task) : Type 0 where
  pub few : length all ≤ 64
  pub tasks : All (IsBoundedTask p) all

pub record IsBounded (p : Problem) : Type 0 where
  pub steps : p.steps.value ≤ 65535
  pub dump : p.dump.value ≤ 65535
  pub ghost_limit : p.ghost_limit.value ≤ 8
  pub materials : p.materials.value ≤ 8
  pub few_levels : length p.levels ≤ 4
  pub levels : (level : ℕ) (l : Level) → slice_get p.levels level ≡ Some l → IsBoundedLevel p level l
  pub few_variables : length p.vars ≤ 64
  pub few_reductions : length p.reductions ≤ 16
  pub init : AreBoundedTasks p p.init
  pub timestep : AreBoundedTasks p p.timestep
  pub keeps : All (λ keep. IsVariable p keep.name ⊎ IsReduction p keep.name) p.keeps
