-- Where slots stand among those of a list.
use Rattle.std.specs.Prelude.{◌≡◌, ℕ, Bool, true, Some, List, ◌++◌, filter, length, map, take, slice_get, slice_index}
use Rattle.std.specs.List.{count_by, flat_map}
use Rattle.uts_geom.specs.Spans.{counted}
use Rattle.problem_types.specs.declared.problem.Problem.{Problem}
use Rattle.problem_types.specs.declared.problem.Task.{Task}
use Rattle.task_check.specs.Plan.{Slot as TaskSlot, Old, is_read, old_numbers, old_variables, patches_of, slots_of}
use Rattle.graph_compiler.specs.Shown.{shown_slot}
use Rattle.graph_compiler.specs.declared.old_slots.OldSlots.{OldSlots}
use Rattle.graph_compiler.specs.declared.plan.Slot.{Slot}

-- the slot stands at this place
abbrev pub StandsAt : Problem → List Task → (place : ℕ) → TaskSlot → Type 0
StandsAt p tasks place s = slice_get (slots_of p tasks) place ≡ Some s

-- all that might stand for a variable at the end of the step before: on a level and a material, on a level, and altogether
abbrev pub of_material : Problem → (name level material : ℕ) → List TaskSlot
of_material p name level material = map (Old name level material) (patches_of p level)

abbrev pub of_level : Problem → (name level : ℕ) → List TaskSlot
of_level p name level = flat_map (of_material p name level) (counted 0 p.materials.value)

abbrev pub of_variable : Problem → (name : ℕ) → List TaskSlot
of_variable p name = flat_map (of_level p name) (counted 0 (length p.levels))

-- the old slots that a list reads, as data
abbrev pub read_slots : Problem → List Task → List Slot
read_slots p tasks = map (shown_slot tasks) (filter (is_read p tasks) (old_variables p ++ old_numbers p))

-- of these slots it was put behind some marks whether they are read, and behind some slots those that are
pub record ArePut (p : Problem) (tasks : List Task) (seen : List TaskSlot) (marks more : List Bool) (slots grown : List Slot) : Type 0 where
  pub marks_are : more ≡ marks ++ map (is_read p tasks) seen
  pub slots_are : grown ≡ slots ++ map (shown_slot tasks) (filter (is_read p tasks) seen)

-- how many of the first marks are set
abbrev pub marked_before : List Bool → ℕ → ℕ
marked_before marks k = count_by (λ mark. mark) (take k marks)

-- the old slots, each that is read at the place that is noted for it: for variables and for reductions by the order of all that might stand
pub record AreOldSlots (p : Problem) (tasks : List Task) (old : OldSlots) : Type 0 where
  pub slots : old.slots ≡ read_slots p tasks
  pub variables : (place : ℕ) (s : TaskSlot) → slice_get (old_variables p) place ≡ Some s → is_read p tasks s ≡ true
      → StandsAt p tasks (slice_index old.variables.items place) s
  pub variable_count : length old.variables.items ≡ length (old_variables p)
  pub numbers : (place : ℕ) (s : TaskSlot) → slice_get (old_numbers p) place ≡ Some s → is_read p tasks s ≡ true
      → StandsAt p tasks (slice_index old.numbers.items place) s
  pub number_count : length old.numbers.items ≡ length (old_numbers p)
