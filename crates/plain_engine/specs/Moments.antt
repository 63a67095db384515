-- What a kernel gives before a task.
use Rattle.std.specs.Prelude.{◌≡◌, ℕ, ℤ, List, map}
use Rattle.std.specs.List.{flat_map}
use Rattle.uts_geom.specs.declared.centring.Centring.{Centring}
use Rattle.uts_geom.specs.declared.index.Index.{Index}
use Rattle.kernel_ast.specs.Value.{value_of}
use Rattle.kernel_ast.specs.declared.expression.Expr.{Expr}
use Rattle.problem_types.specs.Regions.{indexes_of}
use Rattle.problem_types.specs.declared.problem.Problem.{Problem}
use Rattle.problem_types.specs.declared.problem.Task.{Task}
use Rattle.problem_types.specs.declared.problem.Write.{Write}
use Rattle.uts_model.specs.WholeField.{State, environment}
use Rattle.whole_fields.specs.Stored.{state_of}
use Rattle.plain_engine.specs.Changes.{FieldChange, field_change, line_changes, field_changes, line_number, number_changes}
use Rattle.plain_engine.specs.declared.moment.Moment.{Moment}
use Rattle.whole_fields.specs.declared.stores.Stores.{Stores}
use Rattle.plain_engine.specs.declared.written.WrittenNumber.{WrittenNumber}

abbrev pub problem_at : Moment → Problem
problem_at m = m.checked.now

-- what the step before left, and what the tasks before left
abbrev pub old_at : Moment → State
old_at m = state_of m.checked.now m.old.now

abbrev pub new_at : Moment → State
new_at m = state_of m.checked.now m.new.now

-- the number of a kernel on a level and a material at an index
abbrev pub kernel_at : Moment → Expr → (level material : ℕ) → Index → ℤ
kernel_at m kernel level material i = value_of kernel (environment (problem_at m) m.step (old_at m) (new_at m) material level i)

-- what a line of a task gives on a level and a material, what it gives on all of them, and what the task gives
abbrev pub field_change_at : Moment → Write → (level material : ℕ) → FieldChange
field_change_at m = field_change (problem_at m) m.step (old_at m) (new_at m)

abbrev pub line_changes_at : Moment → Task → Write → List FieldChange
line_changes_at m = line_changes (problem_at m) m.step (old_at m) (new_at m)

abbrev pub field_changes_at : Moment → Task → List FieldChange
field_changes_at m = field_changes (problem_at m) m.step (old_at m) (new_at m)

-- the numbers of a kernel on a level, on all materials of a task, at the indexes of a centring
abbrev pub level_numbers : Moment → Task → Expr → Centring → (level : ℕ) → List ℤ
level_numbers m task kernel centring level =
    flat_map (λ material. map (kernel_at m kernel level material) (indexes_of (problem_at m) level centring)) task.materials

-- the number that a line of a task that reduces gives, and those that the task gives
abbrev pub line_number_at : Moment → Task → Write → WrittenNumber
line_number_at m = line_number (problem_at m) m.step (old_at m) (new_at m)

abbrev pub number_changes_at : Moment → Task → List WrittenNumber
number_changes_at m = number_changes (problem_at m) m.step (old_at m) (new_at m)

-- the reads are those of a moment, on a level and a material
pub record AreReadsAt (s : Stores) (m : Moment) (level material : ℕ) : Type 0 where
  pub checked : s.checked ≡ m.checked
  pub old : s.old ≡ m.old
  pub new : s.new ≡ m.new
  pub level_is : s.level ≡ level
  pub material_is : s.material ≡ material
