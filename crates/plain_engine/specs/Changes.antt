-- What a task changes.
use Rattle.std.specs.Prelude.{◌≡◌, ◌<◌, ℕ, ℤ, false, List, [], ◌∷◌, map, length, if◌then◌else◌}
use Rattle.std.specs.List.{flat_map}
use Rattle.uts_geom.specs.declared.index.Index.{Index}
use Rattle.kernel_ast.specs.Value.{value_of}
use Rattle.problem_types.specs.Lists.{is_of_field, is_reduces, centring_of, outside_of, fold_of}
use Rattle.problem_types.specs.Regions.{is_in_space, indexes_of}
use Rattle.problem_types.specs.declared.problem.Problem.{Problem}
use Rattle.problem_types.specs.declared.problem.Task.{Task}
use Rattle.problem_types.specs.declared.problem.Write.{Write}
use Rattle.reductions.specs.Folding.{all_combined}
use Rattle.uts_model.specs.WholeField.{State, environment, contributions}
use Rattle.whole_fields.specs.Stored.{with_field, with_reduction}
use Rattle.plain_engine.specs.declared.written.WrittenField.{WrittenField}
use Rattle.plain_engine.specs.declared.written.WrittenNumber.{WrittenNumber}

-- a field that a task gives a variable on a material and a level, as a function of the index
pub record FieldChange : Type 0 where
  pub name : ℕ
  pub material : ℕ
  pub level : ℕ
  pub number : Index → ℤ

-- the numbers of such a field, by the indexes of the index space in order
abbrev pub written_of : Problem → FieldChange → WrittenField
written_of p x = record {
  name = x.name;
  material = x.material;
  level = x.level;
  numbers = map x.number (indexes_of p x.level (centring_of p x.name));
}

-- a field has the numbers of an index space of the problem
pub record IsFieldOf (p : Problem) (x : WrittenField) : Type 0 where
  pub name : x.name < length p.names
  pub material : x.material < p.materials.value
  pub level : x.level < length p.levels
  pub full : length x.numbers ≡ length (indexes_of p x.level (centring_of p x.name))

-- a state with these fields, of which the first stands where several are of one variable, material and level
abbrev pub with_fields : Problem → State → List FieldChange → State
with_fields p s [] = s
with_fields p s (x ∷ xs) = with_field p (with_fields p s xs) x.name x.material x.level x.number

-- a state with these reductions, of which the first of a name stands
abbrev pub with_numbers : State → List WrittenNumber → State
with_numbers s [] = s
with_numbers s (x ∷ xs) = with_reduction (with_numbers s xs) x.name x.number

-- the field that a line of a task gives on a material and a level, by its kernel
abbrev pub field_change : Problem → ℕ → State → State → Write → (level material : ℕ) → FieldChange
field_change p step old new w level material = record {
  name = w.name;
  material = material;
  level = level;
  number = λ i. value_of w.expr (environment p step old new material level i);
}

-- what a line of a task that computes or modifies gives, on the levels and the materials of the task
abbrev pub line_changes : Problem → ℕ → State → State → Task → Write → List FieldChange
line_changes p step old new task w =
    flat_map (λ level. map (field_change p step old new w level) task.materials) task.levels

-- the fields that a task gives, line by line
abbrev pub field_changes : Problem → ℕ → State → State → Task → List FieldChange
field_changes p step old new task =
    flat_map (λ w. if is_of_field w.kind then line_changes p step old new task w else []) task.writes

-- the number that a line of a task that reduces gives
abbrev pub line_number : Problem → ℕ → State → State → Task → Write → WrittenNumber
line_number p step old new task w = record {
  name = w.name;
  number = all_combined (fold_of p w.name) (contributions p step old new task w);
}

-- the reductions that a task gives, line by line
abbrev pub number_changes : Problem → ℕ → State → State → Task → List WrittenNumber
number_changes p step old new task =
    flat_map (λ w. if is_reduces w.kind then line_number p step old new task w ∷ [] else []) task.writes

-- outside its index space each variable has its outside number
pub record IsBlankOutside (p : Problem) (s : State) : Type 0 where
  pub blank : (name material level : ℕ) (i : Index) → is_in_space p level (centring_of p name) i ≡ false →
      s.field name material level i ≡ outside_of p name
