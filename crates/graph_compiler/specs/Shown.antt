-- Detailed tasks and slots as data, and the versions of slots.
use Rattle.std.specs.Prelude.{ℕ, ◌+◌, Bool, ◌&&◌, List, Some, None, take, slice_get, if◌then◌else◌}
use Rattle.std.specs.List.{count_by}
use Rattle.std.specs.Option.{option_map_or}
use Rattle.problem_types.specs.Lists.{runs_on}
use Rattle.problem_types.specs.declared.problem.Task.{Task}
use Rattle.problem_types.specs.declared.problem.Write.{Write}
use Rattle.task_rules.specs.Lines.{has_modifies, is_modifies}
use Rattle.task_check.specs.Plan.{Detail as DetailedTask, OnPatch, Combining, Slot as TaskSlot, Old, OldNumber, New, Part, Number}
use Rattle.graph_compiler.specs.declared.plan.Detail.{Detail}
use Rattle.graph_compiler.specs.declared.plan.Slot.{Slot}
use Rattle.graph_compiler.specs.declared.plan.SlotKind.TheVariants as kind

-- a detailed task as data; one that combines is on no level, material and patch, and names its line
abbrev pub shown_task : DetailedTask → Detail
shown_task (OnPatch task level material patch) = record { task = task; level = level; material = material; patch = patch; combine = None }
shown_task (Combining task line) = record { task = task; level = 0; material = 0; patch = 0; combine = Some line }

-- the task modifies the variable on this material and level
abbrev pub modifies_variable : (name material level : ℕ) → Task → Bool
modifies_variable name material level t = runs_on t material level && has_modifies t.writes name

-- how many tasks of the list before this place modify the variable on this material and level
abbrev pub modified_before : List Task → (place name material level : ℕ) → ℕ
modified_before tasks place name material level = count_by (modifies_variable name material level) (take place tasks)

-- the version that a line of the task at this place writes: how many earlier tasks modify the variable there, and 1 more where the
-- line modifies it
abbrev pub version_written : List Task → (task material level : ℕ) → Write → ℕ
version_written tasks task material level w = modified_before tasks task w.name material level + (if is_modifies w.kind then 1 else 0)

-- a number of the line of this number of the task at this place
abbrev pub of_line : List Task → (task line : ℕ) → (Write → ℕ) → ℕ
of_line tasks task line number = option_map_or (λ t. option_map_or number (slice_get t.writes line) 0) (slice_get tasks task) 0

-- a slot as data
abbrev pub shown_slot : List Task → TaskSlot → Slot
shown_slot tasks (Old name level material patch) = record { kind = kind.Old; name = name; material = material; level = level; patch = patch; version = 0 }
shown_slot tasks (OldNumber name) = record { kind = kind.OldNumber; name = name; material = 0; level = 0; patch = 0; version = 0 }
shown_slot tasks (New task line level material patch) = record {
  kind = kind.New;
  name = of_line tasks task line (λ w. w.name);
  material = material;
  level = level;
  patch = patch;
  version = of_line tasks task line (version_written tasks task material level);
}
shown_slot tasks (Part task line level material patch) = record {
  kind = kind.Part;
  name = of_line tasks task line (λ w. w.name);
  material = material;
  level = level;
  patch = patch;
  version = 0;
}
shown_slot tasks (Number task line) = record {
  kind = kind.Number;
  name = of_line tasks task line (λ w. w.name);
  material = 0;
  level = 0;
  patch = 0;
  version = 0;
}
