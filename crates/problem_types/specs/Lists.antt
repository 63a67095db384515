-- The lists of a problem, what its tasks write, and the steps that the dump shows.
use Rattle.std.specs.Prelude.{ℕ, zero, suc, ℤ, pos, ◌%◌, ◌==◌, Bool, true, false, ◌&&◌, ◌||◌, List, Option}
use Rattle.std.specs.List.{list_any, find, position}
use Rattle.std.specs.Option.{option_map_or}
use Rattle.problem_types.specs.declared.problem.Problem.{Problem}
use Rattle.problem_types.specs.declared.problem.Task.{Task}
use Rattle.problem_types.specs.declared.problem.Write.{Write}
use Rattle.problem_types.specs.declared.problem.WriteKind.{WriteKind}
use Rattle.problem_types.specs.declared.problem.WriteKind.TheVariants.{Computes, Modifies, Reduces}
use Rattle.problem_types.specs.declared.problem.Var.{Var}
use Rattle.problem_types.specs.declared.problem.Fold.{Fold}
use Rattle.problem_types.specs.declared.problem.Fold.TheVariants.{Sum}
use Rattle.problem_types.specs.declared.problem.Reduction.{Reduction}
use Rattle.uts_geom.specs.declared.centring.Centring.{Centring}
use Rattle.uts_geom.specs.declared.centring.Centring.TheVariants.{Cell}

-- the tasks of a step: those of the init list at step 0, else those of the timestep list
abbrev pub task_list : Problem → ℕ → List Task
task_list p zero = p.init
task_list p (suc n) = p.timestep

-- the dump shows each step that is a multiple of its period, and the last one
abbrev pub is_dumped : Problem → ℕ → Bool
is_dumped p n = (n % p.dump.value == 0) || (n == p.steps.value)

-- the task runs on this material and this level
abbrev pub runs_on : Task → ℕ → ℕ → Bool
runs_on task material level = list_any (λ m. m == material) task.materials && list_any (λ l. l == level) task.levels

abbrev pub is_computes : WriteKind → Bool
is_computes Computes = true
is_computes Modifies = false
is_computes (Reduces c) = false

abbrev pub is_reduces : WriteKind → Bool
is_reduces Computes = false
is_reduces Modifies = false
is_reduces (Reduces c) = true

abbrev pub is_of_field : WriteKind → Bool
is_of_field Computes = true
is_of_field Modifies = true
is_of_field (Reduces c) = false

-- the line by which a task computes or modifies the variable
abbrev pub field_write : Task → ℕ → Option Write
field_write task name = find (λ w. (w.name == name) && is_of_field w.kind) task.writes

-- the line by which a task reduces
abbrev pub reduction_write : Task → ℕ → Option Write
reduction_write task name = find (λ w. (w.name == name) && is_reduces w.kind) task.writes

-- some task of the list computes the variable on this material and this level
abbrev pub computes : List Task → ℕ → ℕ → ℕ → Bool
computes tasks name material level =
    list_any (λ t. runs_on t material level && list_any (λ w. (w.name == name) && is_computes w.kind) t.writes) tasks

-- the declaration of a variable, and of a reduction, by the place of its name
abbrev pub variable_named : Problem → ℕ → Option Var
variable_named p name = find (λ v. v.name == name) p.vars

abbrev pub reduction_named : Problem → ℕ → Option Reduction
reduction_named p name = find (λ q. q.name == name) p.reductions

-- the place of the first declaration of a variable, and of a reduction, of this name among those of its kind
abbrev pub variable_place : Problem → ℕ → Option ℕ
variable_place p name = position (λ v. v.name == name) p.vars

abbrev pub reduction_place : Problem → ℕ → Option ℕ
reduction_place p name = position (λ q. q.name == name) p.reductions

-- the number that stands for the variable outside its index space
abbrev pub outside_of : Problem → ℕ → ℤ
outside_of p name = option_map_or (λ v. v.outside) (variable_named p name) (pos 0)

abbrev pub centring_of : Problem → ℕ → Centring
centring_of p name = option_map_or (λ v. v.centring) (variable_named p name) Cell

abbrev pub fold_of : Problem → ℕ → Fold
fold_of p name = option_map_or (λ q. q.fold) (reduction_named p name) Sum
