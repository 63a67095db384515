-- Problems in form: the rules that hold for each problem by itself, whatever text spells it.
use Rattle.std.specs.Prelude.{◌≡◌, ℕ, ◌<◌, ◌≤◌, ◌^◌, List, [], ◌∷◌, ◌++◌, length, map, All}
use Rattle.std.specs.List.{flat_map}
use Rattle.std.specs.List.Sorted.{IsStrictlyIncreasing}
use Rattle.kernel_ast.specs.Form.{IsExpressionInForm}
use Rattle.problem_types.specs.declared.problem.Problem.{Problem}
use Rattle.problem_types.specs.declared.problem.Level.{Level}
use Rattle.problem_types.specs.declared.problem.Task.{Task}
use Rattle.problem_types.specs.declared.problem.Write.{Write}
use Rattle.problem_types.specs.declared.problem.Ghost.{Ghost}
use Rattle.problem_types.specs.declared.problem.GhostKind.{GhostKind}
use Rattle.problem_types.specs.declared.problem.GhostKind.TheVariants.{None as NoGhost, Cells, Nodes, FaceX, FaceY, FaceZ}
use Rattle.problem_types.specs.declared.problem.What.{What}
use Rattle.problem_types.specs.declared.problem.What.TheVariants.{Same, Coarse, Fine, Number}

-- fewer than 2^31 entries
abbrev pub IsShort : {A : Type 0} → List A → Type 0
IsShort entries = length entries < 2 ^ 31

-- the level or the material numbers of a task
pub record IsNumberList (numbers : List ℕ) : Type 0 where
  pub some : 1 ≤ length numbers
  pub few : IsShort numbers
  pub ascending : IsStrictlyIncreasing numbers

-- a level has one box and at least one patch
pub record IsLevelInForm (l : Level) : Type 0 where
  pub one_box : length l.boxes ≡ 1
  pub some_patch : 1 ≤ length l.patches
  pub few_patches : IsShort l.patches

-- no layers of no ghost data, else at least one
abbrev pub IsLayerNumber : ℕ → GhostKind → Type 0
IsLayerNumber n NoGhost = n ≡ 0
IsLayerNumber n Cells = 1 ≤ n
IsLayerNumber n Nodes = 1 ≤ n
IsLayerNumber n FaceX = 1 ≤ n
IsLayerNumber n FaceY = 1 ≤ n
IsLayerNumber n FaceZ = 1 ≤ n

abbrev pub AreLayersInForm : Ghost → Type 0
AreLayersInForm g = IsLayerNumber g.n g.kind

-- a requirement has one of so many names
abbrev pub IsWhatInForm : ℕ → What → Type 0
IsWhatInForm names (Same var layers) = (var < names) × AreLayersInForm layers
IsWhatInForm names (Coarse var layers) = (var < names) × AreLayersInForm layers
IsWhatInForm names (Fine var) = var < names
IsWhatInForm names (Number name) = name < names

pub record IsWriteInForm (names : ℕ) (w : Write) : Type 0 where
  pub name : w.name < names
  pub expr : IsExpressionInForm names w.expr

pub record IsTaskInForm (names : ℕ) (t : Task) : Type 0 where
  pub name : t.name < names
  pub levels : IsNumberList t.levels
  pub materials : IsNumberList t.materials
  pub few_requirements : IsShort t.requirements
  pub requirements : All (λ r. IsWhatInForm names r.what) t.requirements
  pub some_write : 1 ≤ length t.writes
  pub few_writes : IsShort t.writes
  pub writes : All (IsWriteInForm names) t.writes

-- the tasks of a list
pub record AreTasksInForm (names : ℕ) (tasks : List Task) : Type 0 where
  pub few : IsShort tasks
  pub each : All (IsTaskInForm names) tasks

-- the lines of a level, its box and its patches
abbrev pub level_lines : Level → List ℕ
level_lines l = l.line ∷ (map (λ b. b.line) l.boxes ++ map (λ b. b.line) l.patches)

-- the lines of a task, of what it requires and of what it writes
abbrev pub task_lines : Task → List ℕ
task_lines t = t.line ∷ (map (λ r. r.line) t.requirements ++ map (λ w. w.line) t.writes)

-- the lines of the statements after the first, up to the variables
unfoldable pub grid_lines : Problem → List ℕ
grid_lines p =
    p.steps.line ∷ p.dump.line ∷ p.ghost_limit.line ∷ p.materials.line ∷ flat_map level_lines p.levels

-- the lines of the kept names, and the last line
abbrev pub closing_lines : Problem → List ℕ
closing_lines p = map (λ k. k.line) p.keeps ++ (p.end_line ∷ [])

-- the lines from the timestep list on
unfoldable pub timestep_lines : Problem → List ℕ
timestep_lines p = p.timestep_line ∷ (flat_map task_lines p.timestep ++ closing_lines p)

-- the lines of the statements from the init list on
abbrev pub schedule_lines : Problem → List ℕ
schedule_lines p = p.init_line ∷ (flat_map task_lines p.init ++ timestep_lines p)

-- the lines of all statements after the first
unfoldable pub later_lines : Problem → List ℕ
later_lines p =
    grid_lines p ++ (map (λ v. v.line) p.vars ++ (map (λ q. q.line) p.reductions ++ schedule_lines p))

-- each statement stands on a line below 2^31, and after those before it
pub record IsInLineOrder (p : Problem) : Type 0 where
  pub ascending : IsStrictlyIncreasing (p.version.line ∷ later_lines p)
  pub below : p.end_line < 2 ^ 31

-- the rules of form
pub record IsProblemInForm (p : Problem) : Type 0 where
  pub version : p.version.value ≡ 1
  pub dump : 1 ≤ p.dump.value
  pub materials : 1 ≤ p.materials.value
  pub few_names : IsShort p.names
  pub some_level : 1 ≤ length p.levels
  pub few_levels : IsShort p.levels
  pub levels : All IsLevelInForm p.levels
  pub few_vars : IsShort p.vars
  pub vars : All (λ v. v.name < length p.names) p.vars
  pub few_reductions : IsShort p.reductions
  pub reductions : All (λ q. q.name < length p.names) p.reductions
  pub init : AreTasksInForm (length p.names) p.init
  pub timestep : AreTasksInForm (length p.names) p.timestep
  pub few_keeps : IsShort p.keeps
  pub keeps : All (λ k. k.name < length p.names) p.keeps
  pub lines : IsInLineOrder p
