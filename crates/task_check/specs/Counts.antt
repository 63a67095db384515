-- How large the plans of a problem are, and their limits.
use Rattle.std.specs.Prelude.{ℕ, ◌⊎◌, ◌<◌, List, length, Any, slice_get, if◌then◌else◌}
use Rattle.std.specs.List.{count_by, sum_by}
use Rattle.std.specs.Option.{option_map_or}
use Rattle.uts_geom.specs.Spans.{indexes_of, meet_of}
use Rattle.uts_geom.specs.declared.centring.Centring.{Centring}
use Rattle.uts_geom.specs.declared.span.Span.{Span}
use Rattle.problem_types.specs.Lists.{centring_of}
use Rattle.problem_types.specs.Regions.{spaces_of}
use Rattle.problem_types.specs.declared.problem.Problem.{Problem}
use Rattle.problem_types.specs.declared.problem.Task.{Task}
use Rattle.problem_types.specs.declared.problem.Require.{Require}
use Rattle.patch_regions.specs.Regions.{owned_span}
use Rattle.task_rules.specs.Lines.{wanted_name, wanted_level}
use Rattle.task_check.specs.declared.fault.Which.{Which}
use Rattle.task_check.specs.declared.fault.Which.TheVariants as limit
use Rattle.task_check.specs.Supplies.{kernel_centring}
use Rattle.task_check.specs.Plan.{Detail, OnPatch, Combining, Slot, Old, OldNumber, New, Part, Number, details_of, slots_of, reads, on_patches, wanted_window, is_of_number}

-- how many indexes a patch owns
abbrev pub owned_count : Problem → Centring → (level patch : ℕ) → ℕ
owned_count p c level patch = option_map_or (λ l. length (indexes_of (owned_span c l patch))) (slice_get p.levels level) 0

-- the centring of what a line of a task writes
abbrev pub line_centring : Problem → List Task → (task line : ℕ) → (Centring → ℕ) → ℕ
line_centring p tasks task line count =
    option_map_or (λ t. option_map_or (λ w. count (kernel_centring p w)) (slice_get t.writes line) 0) (slice_get tasks task) 0

-- how many numbers a slot holds: one for each index that its patch owns; a share and a number are one
abbrev pub slot_size : Problem → List Task → Slot → ℕ
slot_size p tasks (Old name level material patch) = owned_count p (centring_of p name) level patch
slot_size p tasks (OldNumber name) = 1
slot_size p tasks (New task line level material patch) = line_centring p tasks task line (λ c. owned_count p c level patch)
slot_size p tasks (Part task line level material patch) = 1
slot_size p tasks (Number task line) = 1

-- how many indexes of a window are on the level
abbrev pub stored_in : Problem → ℕ → Centring → Span → ℕ
stored_in p level c window = sum_by (λ s. length (indexes_of (meet_of window s))) (spaces_of p level c)

-- how many numbers a requirement gathers for a patch: those of its window, or one
abbrev pub gathered_for : Problem → Task → (level patch : ℕ) → Require → ℕ
gathered_for p t level patch r = if is_of_number r.what then 1 else option_map_or (λ l.
    stored_in p (wanted_level r.what level) (centring_of p (wanted_name r.what)) (wanted_window p t r.store r.what level l patch)) (slice_get p.levels level) 0

-- how many numbers a detailed task gathers; one that combines gathers a part of each patch
abbrev pub gathered : Problem → List Task → Detail → ℕ
gathered p tasks (OnPatch task level material patch) = option_map_or (λ t. sum_by (gathered_for p t level patch) t.requirements) (slice_get tasks task) 0
gathered p tasks (Combining task line) = option_map_or (λ t. length (on_patches p task t)) (slice_get tasks task) 0

-- the plan of a list has so many detailed tasks, so many slots, so many pairs of a detailed task and a slot that it reads, and slots
-- of so many numbers
abbrev pub detailed_count : Problem → List Task → ℕ
detailed_count p tasks = length (details_of p tasks)

abbrev pub slot_count : Problem → List Task → ℕ
slot_count p tasks = length (slots_of p tasks)

abbrev pub read_count : Problem → List Task → ℕ
read_count p tasks = sum_by (λ d. count_by (reads p tasks d) (slots_of p tasks)) (details_of p tasks)

abbrev pub stored_count : Problem → List Task → ℕ
stored_count p tasks = sum_by (slot_size p tasks) (slots_of p tasks)

-- the plan of a list is above a limit; the limits on lines of the text are none of a plan
abbrev pub IsAbove : Problem → List Task → Which → Type 0
IsAbove p tasks limit.Detailed = 65536 < detailed_count p tasks
IsAbove p tasks limit.Slots = 262144 < slot_count p tasks
IsAbove p tasks limit.Reads = 2097152 < read_count p tasks
IsAbove p tasks limit.Stored = 16777216 < stored_count p tasks
IsAbove p tasks limit.Gathered = Any (λ d. 2097152 < gathered p tasks d) (details_of p tasks)
IsAbove p tasks other = ⊥

-- the plan of the init list or that of the timestep list is above a limit
abbrev pub IsPlanTooLarge : Problem → Which → Type 0
IsPlanTooLarge p which = IsAbove p p.init which ⊎ IsAbove p p.timestep which
