-- What a problem means: its tasks, evaluated in declared order on whole fields.
use Rattle.std.specs.Prelude.{ℕ, zero, suc, ℤ, pos, ◌+◌, ◌-◌, List, map, fold, length, take, if◌then◌else◌}
use Rattle.std.specs.List.{flat_map}
use Rattle.std.specs.Option.{option_map_or}
use Rattle.uts_geom.specs.declared.index.Index.{Index}
use Rattle.kernel_ast.specs.Value.{Environment, value_of}
use Rattle.problem_types.specs.Lists.{task_list, runs_on, field_write, reduction_write, outside_of, centring_of, fold_of}
use Rattle.reductions.specs.Folding.{all_combined}
use Rattle.problem_types.specs.Regions.{is_in_space, indexes_of, moved, offset_of, ratio_of, coarse_index, children_of}
use Rattle.kernel_ast.specs.declared.expression.Store.{Store}
use Rattle.kernel_ast.specs.declared.expression.Store.TheVariants.{Old, New}
use Rattle.kernel_ast.specs.declared.expression.How.{How}
use Rattle.kernel_ast.specs.declared.expression.How.TheVariants.{Same, Coarse, FineSum, FineMin, FineMax, FineCount}
use Rattle.kernel_ast.specs.declared.expression.Read.{Read}
use Rattle.problem_types.specs.declared.problem.Problem.{Problem}
use Rattle.problem_types.specs.declared.problem.Task.{Task}
use Rattle.problem_types.specs.declared.problem.Write.{Write}
use Rattle.problem_types.specs.declared.problem.WriteKind.{WriteKind}
use Rattle.problem_types.specs.declared.problem.WriteKind.TheVariants.{Computes, Modifies, Reduces}
use Rattle.uts_geom.specs.declared.centring.Centring.{Centring}
use Rattle.uts_geom.specs.declared.centring.Centring.TheVariants.{Cell}
use Rattle.problem_types.specs.declared.problem.Fold.TheVariants.{Sum, Min, Max}

-- What stands at a moment: the number of each variable, by its name, on a material and a level at an index,
-- and the number of each reduction.
pub record State : Type 0 where
  pub field : ℕ → ℕ → ℕ → Index → ℤ
  pub reduction : ℕ → ℤ

-- what stands before the first task of a step
abbrev pub unset : Problem → State
unset p = record { field = λ name material level i. outside_of p name; reduction = λ name. pos 0 }

-- what stands before the first step; no accepted problem reads it
abbrev pub nothing : State
nothing = record { field = λ name material level i. pos 0; reduction = λ name. pos 0 }

abbrev pub store_of : State → State → Store → State
store_of old new Old = old
store_of old new New = new

-- the number of a read of a variable's field on the material at hand, by level and index, from a kernel at i
abbrev pub number_read : Problem → (ℕ → Index → ℤ) → Read → ℕ → Index → How → ℤ
number_read p field r level i Same = field level (moved i (offset_of r.offset))
number_read p field r level i Coarse = field (level - 1) (moved (coarse_index (ratio_of p level) i) (offset_of r.offset))
number_read p field r level i FineSum = all_combined Sum (map (field (level + 1)) (children_of p level (centring_of p r.name) i))
number_read p field r level i FineMin = all_combined Min (map (field (level + 1)) (children_of p level (centring_of p r.name) i))
number_read p field r level i FineMax = all_combined Max (map (field (level + 1)) (children_of p level (centring_of p r.name) i))
number_read p field r level i FineCount = pos (length (children_of p level (centring_of p r.name) i))

-- where a kernel of a task runs: old is what the step before left, and new what the tasks before left
abbrev pub environment : Problem → ℕ → State → State → ℕ → ℕ → Index → Environment
environment p step old new material level i = record {
  x = i.x;
  y = i.y;
  z = i.z;
  level = level;
  material = material;
  step = step;
  read = λ r. number_read p ((store_of old new r.store).field r.name material) r level i r.how;
  number = λ store name. (store_of old new store).reduction name;
}

abbrev pub reduced_centring : WriteKind → Centring
reduced_centring Computes = Cell
reduced_centring Modifies = Cell
reduced_centring (Reduces c) = c

-- the numbers of a reduction's kernel over all levels, materials and indexes of its task
abbrev pub contributions : Problem → ℕ → State → State → Task → Write → List ℤ
contributions p step old new task w =
    flat_map (λ level. flat_map (λ material.
    map (λ i. value_of w.expr (environment p step old new material level i))
    (indexes_of p level (reduced_centring w.kind))) task.materials) task.levels

-- What a task leaves: outside its index space a variable has its outside number; inside, the number of the kernel
-- of the task's line for it, where the task runs on the material and the level and has such a line; else what stood.
unfoldable pub after_task : Problem → ℕ → State → State → Task → State
after_task p step old new task = record {
  field = λ name material level i.
      if is_in_space p level (centring_of p name) i
      then (if runs_on task material level
      then option_map_or (λ w. value_of w.expr (environment p step old new material level i))
      (field_write task name) (new.field name material level i)
      else new.field name material level i)
      else outside_of p name;
  reduction = λ name.
      option_map_or (λ w. all_combined (fold_of p name) (contributions p step old new task w))
      (reduction_write task name) (new.reduction name);
}

abbrev pub after_tasks : Problem → ℕ → State → List Task → State
after_tasks p step old tasks = fold (after_task p step old) (unset p) tasks

-- what stands at the end of a step
unfoldable pub end_of_step : Problem → ℕ → State
end_of_step p zero = after_tasks p 0 nothing p.init
end_of_step p (suc n) = after_tasks p (suc n) (end_of_step p n) p.timestep

abbrev pub before_step : Problem → ℕ → State
before_step p zero = nothing
before_step p (suc n) = end_of_step p n

-- how many tasks the list of a step has
abbrev pub task_count : Problem → ℕ → ℕ
task_count p step = length (task_list p step)

-- what stands after the first tasks of a step
abbrev pub state_at : Problem → ℕ → ℕ → State
state_at p step tasks = after_tasks p step (before_step p step) (take tasks (task_list p step))

-- a variable's number, by its name, on a material and a level at an index, after the first tasks of a step
abbrev pub field_at : Problem → ℕ → ℕ → ℕ → ℕ → ℕ → Index → ℤ
field_at p step tasks name material level i = (state_at p step tasks).field name material level i

-- a reduction's number, by its name, after the first tasks of a step
abbrev pub reduction_at : Problem → ℕ → ℕ → ℕ → ℤ
reduction_at p step tasks name = (state_at p step tasks).reduction name
