-- What a warehouse has of the rows and the numbers of a dump.
use Rattle.std.specs.Prelude.{ℕ, ℤ, List, Option, Some, map}
use Rattle.std.specs.List.{flat_map}
use Rattle.uts_geom.specs.Spans.{row_indexes}
use Rattle.problem_types.specs.Lists.{centring_of}
use Rattle.problem_types.specs.Regions.{spaces_of}
use Rattle.problem_types.specs.declared.problem.Problem.{Problem}
use Rattle.uts_model.specs.WholeField.{State}
use Rattle.whole_fields.specs.Stored.{state_of}
use Rattle.plain_engine.specs.declared.shown.StepRows.{StepRows}

-- the numbers of a row in a state, by ascending x
abbrev pub numbers_of_row : Problem → State → (name material level : ℕ) → (y z : ℤ) → List ℤ
numbers_of_row p s name material level y z =
    flat_map (λ t. map (s.field name material level) (row_indexes t y z)) (spaces_of p level (centring_of p name))

-- a state has each row and each number that the dump may ask for
abbrev pub held_rows : Problem → State → (name material level : ℕ) → (y z : ℤ) → Option (List ℤ)
held_rows p s name material level y z = Some (numbers_of_row p s name material level y z)

abbrev pub held_numbers : State → (name : ℕ) → Option ℤ
held_numbers s name = Some (s.reduction name)

abbrev pub rows_of_step : StepRows → (name material level : ℕ) → (y z : ℤ) → Option (List ℤ)
rows_of_step end = held_rows end.checked.now (state_of end.checked.now end.warehouse.now)

abbrev pub numbers_of_step : StepRows → (name : ℕ) → Option ℤ
numbers_of_step end = held_numbers (state_of end.checked.now end.warehouse.now)
