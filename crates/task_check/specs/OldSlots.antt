-- Which slots of the step before a task reads.
use Rattle.std.specs.Prelude.{ℕ, ◌==◌, Bool, true, false, not, ◌&&◌}
use Rattle.std.specs.List.{list_any}
use Rattle.kernel_ast.specs.declared.expression.Store.{Store}
use Rattle.kernel_ast.specs.declared.expression.Store.TheVariants as store
use Rattle.problem_types.specs.declared.problem.Problem.{Problem}
use Rattle.problem_types.specs.declared.problem.Task.{Task}
use Rattle.problem_types.specs.declared.problem.Require.{Require}
use Rattle.task_rules.specs.Lines.{wanted_name, wanted_level}
use Rattle.task_check.specs.Plan.{patches_of, is_in_window, is_of_number}

abbrev pub is_old : Store → Bool
is_old store.Old = true
is_old store.New = false

-- the requirement is of this variable at the end of the step before, and of this reduction
abbrev pub is_old_variable : (name : ℕ) → Require → Bool
is_old_variable name r = is_old r.store && (not (is_of_number r.what) && (name == wanted_name r.what))

abbrev pub is_old_number : (name : ℕ) → Require → Bool
is_old_number name r = is_old r.store && (is_of_number r.what && (name == wanted_name r.what))

-- the requirement of a task reads the variable on this patch of the level, for some patch of the task's level `from`
abbrev pub wants_old : Problem → Task → (name level patch from : ℕ) → Require → Bool
wants_old p t name level patch from r = is_old_variable name r && ((level == wanted_level r.what from)
    && list_any (λ near. is_in_window p t r from near patch) (patches_of p from))

-- the task reads the variable on this level and patch, for its materials
abbrev pub touches_patch : Problem → (name level patch : ℕ) → Task → Bool
touches_patch p name level patch t = list_any (λ from. list_any (wants_old p t name level patch from) t.requirements) t.levels

-- the task reads the variable on this level, material and patch
abbrev pub reads_variable : Problem → (name level material patch : ℕ) → Task → Bool
reads_variable p name level material patch t = list_any (λ m. material == m) t.materials && touches_patch p name level patch t

-- the task requires the variable as it stands at the end of the step before
abbrev pub requires_old : (name : ℕ) → Task → Bool
requires_old name t = list_any (is_old_variable name) t.requirements

abbrev pub reads_number : (name : ℕ) → Task → Bool
reads_number name t = list_any (is_old_number name) t.requirements
