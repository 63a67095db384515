-- What is computed when a task wants, modifies or computes it.
use Rattle.std.specs.Prelude.{◌≡◌, ℕ, ◌+◌, List, Contains, IsTrue, IsFalse}
use Rattle.std.specs.List.{list_any}
use Rattle.kernel_ast.specs.declared.expression.Store.TheVariants as store
use Rattle.problem_types.specs.Lists.{computes, runs_on}
use Rattle.problem_types.specs.declared.problem.Task.{Task}
use Rattle.problem_types.specs.declared.problem.GhostKind.TheVariants as ghosts
use Rattle.problem_types.specs.declared.problem.Require.{Require}
use Rattle.problem_types.specs.declared.problem.What.{What}
use Rattle.problem_types.specs.declared.problem.What.TheVariants as what
use Rattle.task_rules.specs.Lines.{wanted_name, wanted_level, has_computes, reduces}

-- on some material and level on which the task runs, this holds
abbrev pub Somewhere : Task → (ℕ → ℕ → Type 0) → Type 0
Somewhere t P = (material level : ℕ) × IsTrue (runs_on t material level) × P material level

-- the tasks compute the variable on the level that is wanted for some material and level of the task not
abbrev pub LackVariable : List Task → Task → What → Type 0
LackVariable tasks t w = Somewhere t (λ material level. IsFalse (computes tasks (wanted_name w) material (wanted_level w level)))

-- the tasks lack what is required: none reduces the reduction, or none computes the variable on some wanted material and level
abbrev pub Lack : List Task → Task → What → Type 0
Lack tasks t (what.Same var layers) = LackVariable tasks t (what.Same var layers)
Lack tasks t (what.Coarse var layers) = LackVariable tasks t (what.Coarse var layers)
Lack tasks t (what.Fine var) = LackVariable tasks t (what.Fine var)
Lack tasks t (what.Number name) = IsFalse (reduces tasks name)

-- the tasks compute the variable nowhere on some material and level of the task
abbrev pub LeaveOut : List Task → Task → ℕ → Type 0
LeaveOut tasks t name = Somewhere t (λ material level. IsFalse (computes tasks name material level))

-- the tasks neither compute nor reduce the name anywhere
abbrev pub NeverWrite : List Task → ℕ → Type 0
NeverWrite tasks name = IsFalse (list_any (λ t. has_computes t.writes name) tasks) × IsFalse (reduces tasks name)

-- one of the tasks computes the variable on a material and level of the task
abbrev pub ComputeBeside : List Task → Task → ℕ → Type 0
ComputeBeside tasks t name = Somewhere t (λ material level. IsTrue (computes tasks name material level))

-- on some material and level of the task a later task computes the variable, and no earlier one does
abbrev pub ComputeOnlyLater : (earlier later : List Task) → Task → ℕ → Type 0
ComputeOnlyLater earlier later t name =
    Somewhere t (λ material level. IsFalse (computes earlier name material level) × IsTrue (computes later name material level))

-- two of the levels are neighbours
abbrev pub HaveNeighbours : List ℕ → Type 0
HaveNeighbours levels = (l : ℕ) × Contains levels l × Contains levels (l + 1)

-- ghost data, or data of a level on which the task runs too
abbrev pub ReachesOut : List ℕ → What → Type 0
ReachesOut levels (what.Same var layers) = layers.kind ≡ ghosts.None → ⊥
ReachesOut levels (what.Coarse var layers) = HaveNeighbours levels
ReachesOut levels (what.Fine var) = HaveNeighbours levels
ReachesOut levels (what.Number name) = ⊥

-- a requirement that reads new values of the name where the task itself may be modifying them
pub record ReadsWhileModified (levels : List ℕ) (name : ℕ) (r : Require) : Type 0 where
  pub store : r.store ≡ store.New
  pub name_is : wanted_name r.what ≡ name
  pub reach : ReachesOut levels r.what
