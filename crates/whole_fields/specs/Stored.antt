-- What a warehouse of whole fields holds.
use Rattle.std.specs.Prelude.{◌≡◌, ℕ, ℤ, pos, ◌+◌, ◌*◌, ◌==◌, Bool, ◌&&◌, List, length, Option, Some, None, slice_index_or, position, nat_lt, if◌then◌else◌}
use Rattle.std.specs.Option.{ForSome}
use Rattle.std.specs.Ordering.{int_eq}
use Rattle.uts_geom.specs.declared.index.Index.{Index}
use Rattle.uts_geom.specs.SameIndexes.{is_same_index}
use Rattle.problem_types.specs.Lists.{outside_of, centring_of}
use Rattle.problem_types.specs.Regions.{is_in_space, indexes_of}
use Rattle.problem_types.specs.declared.problem.Problem.{Problem}
use Rattle.uts_model.specs.WholeField.{State}
use Rattle.whole_fields.specs.declared.warehouse.Warehouse.{Warehouse}

abbrev pub found : Option ℕ → List ℤ → ℤ
found None numbers = pos 0
found (Some place) numbers = slice_index_or numbers place (pos 0)

-- the number of an index, where one stands for each of these indexes in order
abbrev pub number_among : List Index → List ℤ → Index → ℤ
number_among indexes numbers i = found (position (λ j. is_same_index i j) indexes) numbers

-- where the field of a name, a material and a level stands: levels go fastest, then materials, then names
abbrev pub field_place : Problem → (name material level : ℕ) → ℕ
field_place p name material level = (name * p.materials.value + material) * length p.levels + level

-- the numbers of a field, if it has been put: of a name, a material and a level that the problem has
abbrev pub stored_field : Problem → Warehouse → (name material level : ℕ) → Option (List ℤ)
stored_field p w name material level =
    if nat_lt name (length p.names) && (nat_lt material p.materials.value && nat_lt level (length p.levels))
    then slice_index_or w.fields (field_place p name material level) None
    else None

-- the number of a variable outside its index space, and wherever none has been put: before the first step 0
abbrev pub blank_of : Problem → Warehouse → (name : ℕ) → ℤ
blank_of p w name = if w.is_before then pos 0 else outside_of p name

abbrev pub number_of_field : Problem → Warehouse → (name level : ℕ) → Option (List ℤ) → Index → ℤ
number_of_field p w name level None i = blank_of p w name
number_of_field p w name level (Some numbers) i =
    if is_in_space p level (centring_of p name) i
    then number_among (indexes_of p level (centring_of p name)) numbers i
    else blank_of p w name

-- what stands in a warehouse
unfoldable pub state_of : Problem → Warehouse → State
state_of p w = record {
  field = λ name material level i. number_of_field p w name level (stored_field p w name material level) i;
  reduction = λ name. slice_index_or w.reductions name (pos 0);
}

-- the warehouse has a place for each field and each reduction of the problem, and a field that was put has a number for each index
pub record IsWarehouseOf (p : Problem) (w : Warehouse) : Type 0 where
  pub fields : length w.fields ≡ length p.names * p.materials.value * length p.levels
  pub reductions : length w.reductions ≡ length p.names
  pub full : (name material level : ℕ) → ForSome (stored_field p w name material level)
      (λ numbers. length numbers ≡ length (indexes_of p level (centring_of p name)))

-- a state with another field on a name, a material and a level, inside its index space
abbrev pub with_field : Problem → State → (name material level : ℕ) → (Index → ℤ) → State
with_field p s name material level f = record {
  field = λ n m l i.
      if ((n == name) && ((m == material) && (l == level))) && is_in_space p level (centring_of p name) i
      then f i
      else s.field n m l i;
  reduction = s.reduction;
}

-- a state with another number of a reduction
abbrev pub with_reduction : State → (name : ℕ) → ℤ → State
with_reduction s name n = record {
  field = s.field;
  reduction = λ other. if other == name then n else s.reduction other;
}
