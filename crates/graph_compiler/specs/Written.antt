-- The slots that tasks write as data, by their lines.
use Rattle.std.specs.Prelude.{ℕ, ◌+◌, List, [], ◌∷◌, ◌++◌, map, if◌then◌else◌}
use Rattle.std.specs.List.{count_by, flat_map}
use Rattle.problem_types.specs.Lists.{is_reduces}
use Rattle.problem_types.specs.declared.problem.Problem.{Problem}
use Rattle.problem_types.specs.declared.problem.Task.{Task}
use Rattle.problem_types.specs.declared.problem.Write.{Write}
use Rattle.problem_types.specs.declared.problem.WriteKind.{WriteKind}
use Rattle.problem_types.specs.declared.problem.WriteKind.TheVariants as write
use Rattle.task_check.specs.Plan.{patches_of}
use Rattle.graph_compiler.specs.Shown.{modifies_variable}
use Rattle.graph_compiler.specs.declared.plan.Slot.{Slot}
use Rattle.graph_compiler.specs.declared.plan.SlotKind.{SlotKind}
use Rattle.graph_compiler.specs.declared.plan.SlotKind.TheVariants as kind

-- the kind of the slot that a line writes on a patch
abbrev pub kind_written : WriteKind → SlotKind
kind_written write.Computes = kind.New
kind_written write.Modifies = kind.New
kind_written (write.Reduces c) = kind.Part

-- the version of that slot, where so many earlier tasks modify the variable there
abbrev pub version_by_kind : WriteKind → (earlier : ℕ) → ℕ
version_by_kind write.Computes earlier = earlier
version_by_kind write.Modifies earlier = earlier + 1
version_by_kind (write.Reduces c) earlier = 0

-- the slot that a line of a task behind these writes on a patch
abbrev pub line_slot : (earlier : List Task) → (level material patch : ℕ) → Write → Slot
line_slot earlier level material patch w = record {
  kind = kind_written w.kind;
  name = w.name;
  material = material;
  level = level;
  patch = patch;
  version = version_by_kind w.kind (count_by (modifies_variable w.name material level) earlier);
}

-- the same slot on another patch
abbrev pub slot_on : (patch : ℕ) → Slot → Slot
slot_on patch s = record s { patch = patch }

-- the number of a line that reduces
abbrev pub number_slot : Write → Slot
number_slot w = record { kind = kind.Number; name = w.name; material = 0; level = 0; patch = 0; version = 0 }

-- what a task behind these writes on the patches of a level, for a material
abbrev pub on_level : Problem → (earlier : List Task) → List Write → (level material : ℕ) → List Slot
on_level p earlier writes level material = flat_map (λ patch. map (line_slot earlier level material patch) writes) (patches_of p level)

-- what it writes on patches
abbrev pub patch_slots : Problem → (earlier : List Task) → Task → List Slot
patch_slots p earlier t = flat_map (λ level. flat_map (on_level p earlier t.writes level) t.materials) t.levels

-- the numbers of the lines that reduce
abbrev pub number_slots : List Write → List Slot
number_slots writes = flat_map (λ w. if is_reduces w.kind then number_slot w ∷ [] else []) writes

-- all that it writes
abbrev pub task_slots : Problem → (earlier : List Task) → Task → List Slot
task_slots p earlier t = patch_slots p earlier t ++ number_slots t.writes
