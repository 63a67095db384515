-- The fields of a kept name, and their lines.
use Rattle.std.specs.Prelude.{ℕ, ℤ, ◌<◌, List, [], length, map, if◌then◌else◌}
use Rattle.std.specs.List.{flat_map}
use Rattle.uts_geom.specs.Spans.{counted}
use Rattle.problem_types.specs.Lists.{task_list, computes, centring_of}
use Rattle.problem_types.specs.Regions.{spaces_of}
use Rattle.probes.specs.declared.row.Row.{Row}
use Rattle.uts_model.specs.Dump.{Shown, Field, shown_fields, row_shown}
use Rattle.task_check.specs.Bounds.{IsBounded}
use Rattle.dump_text.specs.Lines.{Line, field_lines, keep_lines}
use Rattle.dump_text.specs.declared.field.Kept.{Kept}
use Rattle.dump_text.specs.declared.place.Place.{Place}

-- a name that the problem has, of a problem within the limits
pub record IsKept (k : Kept) : Type 0 where
  pub named : k.name < length k.problem.now.names
  pub bounded : IsBounded k.problem.now

-- the field that lies at a place
abbrev pub field_at : Place → Field
field_at place = record { material = place.material; level = place.level; span = place.span }

-- a row of a field, by its y and z
abbrev pub kept_row : Shown → Kept → Place → ℤ × ℤ → Row
kept_row shown k place at = row_shown shown k.step k.keep k.name (field_at place) at

-- the lines of fields
abbrev pub lines_of_fields : Shown → Kept → List Field → List Line
lines_of_fields shown k fields = flat_map (field_lines k.problem.now shown k.step k.keep k.name) fields

-- the fields on a material and a level, on a material, and everywhere
abbrev pub level_fields : Kept → (material level : ℕ) → List Field
level_fields k material level =
    if computes (task_list k.problem.now k.step) k.name material level
    then map (λ s. record { material = material; level = level; span = s }) (spaces_of k.problem.now level (centring_of k.problem.now k.name))
    else []

abbrev pub material_fields : Kept → (material : ℕ) → List Field
material_fields k material = flat_map (level_fields k material) (counted 0 (length k.problem.now.levels))

abbrev pub all_fields : Kept → List Field
all_fields k = shown_fields k.problem.now k.step k.name

-- the lines of a kept name
abbrev pub kept_lines : Shown → Kept → List Line
kept_lines shown k = keep_lines k.problem.now shown k.step k.keep k.name
