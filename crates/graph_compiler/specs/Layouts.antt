-- Where the slots of each task stand: those on patches first, by level, material, patch and line, and then the numbers that it combines.
use Rattle.std.specs.Prelude.{◌≡◌, ℕ, ◌+◌, ◌*◌, ◌<◌, ◌≤◌, ◌==◌, true, Some, List, ◌++◌, Contains, length, map, slice_get, take}
use Rattle.std.specs.List.{position}
use Rattle.std.specs.Option.{unwrap_or}
use Rattle.uts_geom.specs.Spans.{counted}
use Rattle.problem_types.specs.Lists.{is_reduces}
use Rattle.problem_types.specs.declared.problem.Problem.{Problem}
use Rattle.problem_types.specs.declared.problem.Task.{Task}
use Rattle.problem_types.specs.declared.problem.Write.{Write}
use Rattle.task_check.specs.Plan.{Detail, Number, Slot, combining, on_patches, patches_of, slot_written, written_by}
use Rattle.task_check.specs.Sizes.{part_count, patches_on, reduces_count}
use Rattle.graph_compiler.specs.Places.{StandsAt}
use Rattle.graph_compiler.specs.declared.layout.Layout.{Layout}

-- how many numbers of a list come before a number
abbrev pub before : ℕ → List ℕ → ℕ
before n numbers = unwrap_or (position (λ m. m == n) numbers) 0

-- how many detailed tasks a task has on patches before those of a level and a material
abbrev pub parts_before : Problem → Task → (level material : ℕ) → ℕ
parts_before p t level material =
    length t.materials * patches_on p (take (before level t.levels) t.levels) + before material t.materials * length (patches_of p level)

-- The layout is the one of the task `t` at this place of a list: it says where its slots stand, by level, material, patch and line, and by
-- the numbers of its detailed tasks on patches and of those that combine.
pub record IsLaidOut (p : Problem) (tasks : List Task) (place : ℕ) (t : Task) (layout : Layout) : Type 0 where
  pub parts : layout.parts ≡ part_count p t
  pub lines : layout.lines ≡ length t.writes
  pub numbers : layout.numbers ≡ reduces_count t.writes
  pub few : layout.first + (layout.parts * layout.lines + layout.numbers) ≤ 262144
  pub on_patch : (level material patch line : ℕ) (w : Write) → Contains t.levels level → Contains t.materials material
      → patch < length (patches_of p level) → slice_get t.writes line ≡ Some w
      → StandsAt p tasks (layout.first + ((parts_before p t level material + patch) * layout.lines + line)) (slot_written w.kind place line level material patch)
  pub combined : (line : ℕ) (w : Write) → slice_get t.writes line ≡ Some w → is_reduces w.kind ≡ true
      → StandsAt p tasks (layout.first + (layout.parts * layout.lines + reduces_count (take line t.writes))) (Number place line)
  pub part_count : length (on_patches p place t) ≡ layout.parts
  pub part : (part line : ℕ) (d : Detail) (s : Slot) → slice_get (on_patches p place t) part ≡ Some d → slice_get (written_by tasks d) line ≡ Some s
      → StandsAt p tasks (layout.first + (part * layout.lines + line)) s
  pub number_count : length (combining place t) ≡ layout.numbers
  pub number : (number : ℕ) (d : Detail) (s : Slot) → slice_get (combining place t) number ≡ Some d → slice_get (written_by tasks d) 0 ≡ Some s
      → StandsAt p tasks (layout.first + (layout.parts * layout.lines + number)) s

-- the layouts of the tasks of a list, in order
pub record AreLaidOut (p : Problem) (tasks : List Task) (layouts : List Layout) : Type 0 where
  pub count : length layouts ≡ length tasks
  pub each : (place : ℕ) (t : Task) (layout : Layout) → slice_get tasks place ≡ Some t → slice_get layouts place ≡ Some layout
      → IsLaidOut p tasks place t layout

-- the rows of `count` numbers each, from a first number on
abbrev pub rows : (first count n : ℕ) → List (List ℕ)
rows first count n = map (λ row. counted (first + row * count) count) (counted 0 n)

-- what the detailed tasks of a layout write
abbrev pub rows_of : Layout → List (List ℕ)
rows_of layout = rows layout.first layout.lines layout.parts ++ rows (layout.first + layout.parts * layout.lines) 1 layout.numbers
