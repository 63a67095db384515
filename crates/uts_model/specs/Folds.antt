-- The numbers that reads of children and reductions combine.
use Rattle.std.specs.Prelude.{ℕ, ℤ, ◌+◌, ◌≤◌, List, map}
use Rattle.std.specs.List.{flat_map}
use Rattle.kernel_ast.specs.Size.{depth_of}
use Rattle.kernel_ast.specs.Value.{value_of}
use Rattle.kernel_ast.specs.declared.expression.Read.{Read}
use Rattle.problem_types.specs.Lists.{centring_of}
use Rattle.problem_types.specs.Regions.{indexes_of, children_of}
use Rattle.uts_geom.specs.declared.index.Index.{Index}
use Rattle.uts_model.specs.Evaluable.{IsEvaluable, IsEvaluableTask}
use Rattle.uts_model.specs.Moments.{state_of, moment_of, environment_at}
use Rattle.uts_model.specs.WholeField.{reduced_centring, task_count}
use Rattle.uts_model.specs.declared.moments.Place.{Place}
use Rattle.uts_model.specs.declared.numbers.Reducing.{Reducing}

-- the numbers at the children of a kernel's index
unfoldable pub numbers_of_children : Place → Read → List ℤ
numbers_of_children place r =
    let p = place.problem.now in
    map ((state_of p (moment_of place r.store)).field r.name place.site.material (place.site.level + 1))
    (children_of p place.site.level (centring_of p r.name) place.site.index)

-- where the kernel of a reducing line runs
abbrev pub place_of : Reducing → (level material : ℕ) → Index → Place
place_of line level material i = record {
  problem = line.problem;
  step = line.step;
  tasks = line.tasks;
  site = record { material = material; level = level; index = i };
}

-- the numbers of a reducing line on a level for a material, on a level, and all of them
unfoldable pub numbers_on : Reducing → (level material : ℕ) → List ℤ
numbers_on line level material =
    map (λ i. value_of line.write.now.expr (environment_at (place_of line level material i)))
    (indexes_of line.problem.now level (reduced_centring line.write.now.kind))

unfoldable pub numbers_for : Reducing → ℕ → List ℤ
numbers_for line level = flat_map (numbers_on line level) line.task.now.materials

unfoldable pub all_numbers : Reducing → List ℤ
all_numbers line = flat_map (numbers_for line) line.task.now.levels

-- the line is one of a step's task, at the place of its tasks or before
pub record IsReducing (line : Reducing) : Type 0 where
  pub evaluable : IsEvaluable line.problem.now
  pub tasks : line.tasks ≤ task_count line.problem.now line.step
  pub shallow : depth_of line.write.now.expr ≤ 64
  pub task : IsEvaluableTask line.task.now
