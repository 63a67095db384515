-- The task graph of a list of tasks: its detailed tasks and its slots, each in order, and which of them reads which.
use Rattle.std.specs.Prelude.{ℕ, pos, ◌+◌, ◌+ℤ◌, ◌*ℤ◌, ◌==◌, Bool, true, false, not, ◌&&◌, List, [], ◌∷◌, ◌++◌, length, map, take, drop, filter, slice_get, nat_lt, if◌then◌else◌}
use Rattle.std.specs.List.{flat_map, list_any}
use Rattle.std.specs.Option.{option_map_or, is_some}
use Rattle.kernel_ast.specs.declared.expression.Store.{Store}
use Rattle.kernel_ast.specs.declared.expression.Store.TheVariants as store
use Rattle.uts_geom.specs.Spans.{index, counted, do_meet}
use Rattle.uts_geom.specs.Centrings.{is_point_like}
use Rattle.uts_geom.specs.declared.centring.Axis.TheVariants.{X, Y, Z}
use Rattle.uts_geom.specs.declared.centring.Centring.{Centring}
use Rattle.uts_geom.specs.declared.span.Span.{Span}
use Rattle.problem_types.specs.Lists.{runs_on, field_write, is_of_field, is_reduces, centring_of}
use Rattle.problem_types.specs.Levels.{cells_of}
use Rattle.problem_types.specs.Regions.{ratio_of}
use Rattle.problem_types.specs.declared.problem.Problem.{Problem}
use Rattle.problem_types.specs.declared.problem.Level.{Level}
use Rattle.problem_types.specs.declared.problem.Task.{Task}
use Rattle.problem_types.specs.declared.problem.Require.{Require}
use Rattle.problem_types.specs.declared.problem.What.{What}
use Rattle.problem_types.specs.declared.problem.What.TheVariants as what
use Rattle.problem_types.specs.declared.problem.Write.{Write}
use Rattle.problem_types.specs.declared.problem.WriteKind.{WriteKind}
use Rattle.problem_types.specs.declared.problem.WriteKind.TheVariants as kind
use Rattle.grid_levels.specs.Good.{divided}
use Rattle.patch_regions.specs.Regions.{patch_at, owned_span}
use Rattle.ghost_rules.specs.Windows.{window_of}
use Rattle.ghost_rules.specs.declared.seen.Seen.{Seen}
use Rattle.ghost_rules.specs.declared.seen.Seen.TheVariants as seen
use Rattle.task_rules.specs.Lines.{wanted_name, wanted_level}
use Rattle.task_check.specs.Supplies.{seen_of}

-- A detailed task: a task of the list on a level, a material and a patch, or the one that combines the parts of a reduction, by the
-- place of its line among those that the task writes.
pub data Detail : Type 0 where
  OnPatch : (task level material patch : ℕ) → Detail
  Combining : (task line : ℕ) → Detail

-- A slot, which holds what a detailed task writes or reads: a variable or a reduction at the end of the step before, by its name; a
-- variable on a patch or the share of a patch in a reduction, by the task and the line that write it; or the number of a reduction.
pub data Slot : Type 0 where
  Old : (name level material patch : ℕ) → Slot
  OldNumber : (name : ℕ) → Slot
  New : (task line level material patch : ℕ) → Slot
  Part : (task line level material patch : ℕ) → Slot
  Number : (task line : ℕ) → Slot

-- the numbers of the patches of a level
abbrev pub patches_of : Problem → ℕ → List ℕ
patches_of p level = counted 0 (option_map_or (λ l. length l.patches) (slice_get p.levels level) 0)

-- whether this holds of the line of this number of some lines
abbrev pub line_is : List Write → (Write → Bool) → ℕ → Bool
line_is writes test line = option_map_or test (slice_get writes line) false

-- the detailed tasks of a task at its place in the list: by level, material and patch, and then those that combine
abbrev pub on_patches : Problem → (place : ℕ) → Task → List Detail
on_patches p place t =
    flat_map (λ level. flat_map (λ material. map (OnPatch place level material) (patches_of p level)) t.materials) t.levels

abbrev pub combining : (place : ℕ) → Task → List Detail
combining place t = map (Combining place) (filter (line_is t.writes (λ w. is_reduces w.kind)) (counted 0 (length t.writes)))

-- the detailed tasks of a list, in order
abbrev pub details_of : Problem → List Task → List Detail
details_of p tasks =
    flat_map (λ place. option_map_or (λ t. on_patches p place t ++ combining place t) (slice_get tasks place) []) (counted 0 (length tasks))

-- the slot that a line of a task writes on a patch
abbrev pub slot_written : WriteKind → (task line level material patch : ℕ) → Slot
slot_written kind.Computes task line level material patch = New task line level material patch
slot_written kind.Modifies task line level material patch = New task line level material patch
slot_written (kind.Reduces c) task line level material patch = Part task line level material patch

-- the slots that a detailed task writes, in the order of its lines
abbrev pub written_by : List Task → Detail → List Slot
written_by tasks (OnPatch task level material patch) = flat_map (λ line.
    option_map_or (λ t. option_map_or (λ w. slot_written w.kind task line level material patch ∷ []) (slice_get t.writes line) []) (slice_get tasks task) [])
    (counted 0 (option_map_or (λ t. length t.writes) (slice_get tasks task) 0))
written_by tasks (Combining task line) = Number task line ∷ []

-- the task writes the variable on this material and level
abbrev pub writes_variable : (name material level : ℕ) → Task → Bool
writes_variable name material level t = runs_on t material level && is_some (field_write t name)

-- the task at the place `writer` is the last one before the place `place` that writes the variable on this material and level
abbrev pub is_last_writer : List Task → (place name material level writer : ℕ) → Bool
is_last_writer tasks place name material level writer = nat_lt writer place
    && (option_map_or (writes_variable name material level) (slice_get tasks writer) false
    && not (list_any (writes_variable name material level) (drop (writer + 1) (take place tasks))))

-- the line of this number of the task at this place is of a variable, and of a reduction, of this name
abbrev pub is_line_of : List Task → (Write → Bool) → (name task line : ℕ) → Bool
is_line_of tasks test name task line =
    option_map_or (λ t. line_is t.writes (λ w. (w.name == name) && test w) line) (slice_get tasks task) false

-- The slot has a variable's numbers on this material and level as they stand for the task at this place: those of the step before, or
-- those that the last earlier writer leaves.
abbrev pub has_variable : List Task → (place : ℕ) → Store → (name material level : ℕ) → Slot → Bool
has_variable tasks place store.Old name material level (Old n l m patch) = (n == name) && ((l == level) && (m == material))
has_variable tasks place store.New name material level (New writer line l m patch) = (l == level) && ((m == material)
    && (is_last_writer tasks place name material level writer && is_line_of tasks (λ w. is_of_field w.kind) name writer line))
has_variable tasks place at name material level other = false

-- the slot has the number of a reduction: of the step before, or of this one
abbrev pub has_number : List Task → Store → (name : ℕ) → Slot → Bool
has_number tasks store.Old name (OldNumber n) = n == name
has_number tasks store.New name (Number task line) = is_line_of tasks (λ w. is_reduces w.kind) name task line
has_number tasks at name other = false

-- the patch of a slot
abbrev pub patch_of : Slot → ℕ
patch_of (Old name level material patch) = patch
patch_of (OldNumber name) = 0
patch_of (New task line level material patch) = patch
patch_of (Part task line level material patch) = patch
patch_of (Number task line) = 0

-- a span of cells, refined by a ratio, and what it holds besides where the variable is point-like
abbrev pub refined : Centring → (ratio : ℕ) → Span → Span
refined c ratio s = record {
  lo = index (pos ratio *ℤ s.lo.x) (pos ratio *ℤ s.lo.y) (pos ratio *ℤ s.lo.z);
  hi = index (pos ratio *ℤ s.hi.x +ℤ (if is_point_like c X then pos 1 else pos 0)) (pos ratio *ℤ s.hi.y +ℤ (if is_point_like c Y then pos 1 else pos 0))
      (pos ratio *ℤ s.hi.z +ℤ (if is_point_like c Z then pos 1 else pos 0));
}

-- the window around a patch of a level, or what the patch owns
abbrev pub window_seen : Seen → Centring → Level → (patch : ℕ) → Span
window_seen (seen.Ghosted layers) c l patch = window_of layers c (cells_of (patch_at l patch))
window_seen seen.Own c l patch = owned_span c l patch

-- the window that a requirement of a task asks for around a patch of the task's level `l`, in the indexes of the level that it wants
abbrev pub wanted_window : Problem → Task → Store → What → (level : ℕ) → Level → (patch : ℕ) → Span
wanted_window p t at (what.Same var layers) level l patch = window_seen (seen_of t var at layers) (centring_of p var) l patch
wanted_window p t at (what.Coarse var layers) level l patch =
    window_of layers (centring_of p var) (divided (ratio_of p level) (cells_of (patch_at l patch)))
wanted_window p t at (what.Fine var) level l patch =
    refined (centring_of p var) (ratio_of p (level + 1)) (cells_of (patch_at l patch))
wanted_window p t at (what.Number name) level l patch = cells_of (patch_at l patch)

-- the patch of the wanted level owns an index of the window around the task's patch
abbrev pub is_in_window : Problem → Task → Require → (level patch other : ℕ) → Bool
is_in_window p t r level patch other =
    option_map_or (λ l. option_map_or (λ wanted. do_meet (owned_span (centring_of p (wanted_name r.what)) wanted other) (wanted_window p t r.store r.what level l patch))
    (slice_get p.levels (wanted_level r.what level)) false) (slice_get p.levels level) false

abbrev pub is_of_number : What → Bool
is_of_number (what.Same var layers) = false
is_of_number (what.Coarse var layers) = false
is_of_number (what.Fine var) = false
is_of_number (what.Number name) = true

-- a requirement of the task at this place wants the slot, for this level, material and patch
abbrev pub wants : Problem → List Task → (place : ℕ) → Task → (level material patch : ℕ) → Slot → Require → Bool
wants p tasks place t level material patch s r = if is_of_number r.what
    then has_number tasks r.store (wanted_name r.what) s
    else has_variable tasks place r.store (wanted_name r.what) material (wanted_level r.what level) s
    && is_in_window p t r level patch (patch_of s)

-- a part of the reduction of this line of a task
abbrev pub is_part_of : (task line : ℕ) → Slot → Bool
is_part_of task line (Part other other_line level material patch) = (other == task) && (other_line == line)
is_part_of task line other = false

-- the detailed task reads the slot
abbrev pub reads : Problem → List Task → Detail → Slot → Bool
reads p tasks (OnPatch task level material patch) s =
    option_map_or (λ t. list_any (wants p tasks task t level material patch s) t.requirements) (slice_get tasks task) false
reads p tasks (Combining task line) s = is_part_of task line s

-- some detailed task of the list reads the slot
abbrev pub is_read : Problem → List Task → Slot → Bool
is_read p tasks s = list_any (λ d. reads p tasks d s) (details_of p tasks)

-- all slots that might stand for the step before: variables by declaration, level, material and patch, then reductions by declaration
abbrev pub old_variables : Problem → List Slot
old_variables p = flat_map (λ v. flat_map (λ level. flat_map (λ material. map (Old v.name level material) (patches_of p level))
    (counted 0 p.materials.value)) (counted 0 (length p.levels))) p.vars

abbrev pub old_numbers : Problem → List Slot
old_numbers p = map (λ q. OldNumber q.name) p.reductions

-- the slots of a list, in order: the old ones that are read, and then what the detailed tasks write
abbrev pub slots_of : Problem → List Task → List Slot
slots_of p tasks = filter (is_read p tasks) (old_variables p ++ old_numbers p) ++ flat_map (written_by tasks) (details_of p tasks)
