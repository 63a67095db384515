-- Which slots a list has, where they stand, and what stands once.
use Rattle.std.specs.Prelude.{◌≡◌, ℕ, ◌<◌, Bool, true, Some, List, Any, Contains, length, slice_get}
use Rattle.problem_types.specs.Form.{IsProblemInForm}
use Rattle.problem_types.specs.Lists.{is_of_field, is_reduces, task_list}
use Rattle.problem_types.specs.declared.problem.Problem.{Problem}
use Rattle.problem_types.specs.declared.problem.Task.{Task}
use Rattle.problem_types.specs.declared.problem.Var.{Var}
use Rattle.problem_types.specs.declared.problem.Write.{Write}
use Rattle.problem_types.specs.declared.problem.WriteKind.{WriteKind}
use Rattle.task_check.specs.First.{IsAccepted}
use Rattle.task_check.specs.Plan.{Detail, OnPatch, Combining, Slot, Old, OldNumber, New, Part, Number, details_of, is_line_of, patches_of, slots_of, written_by}
use Rattle.graph_compiler.specs.Places.{StandsAt}
use Rattle.graph_compiler.specs.Plan.{is_writing, places_of}

-- of a variable that is declared, on a level, a material and a patch of the problem
pub record IsOldOn (p : Problem) (name level material patch : ℕ) : Type 0 where
  pub variable : Var
  pub declared : Contains p.vars variable
  pub named : variable.name ≡ name
  pub of_levels : level < length p.levels
  pub of_materials : material < p.materials.value
  pub of_patches : patch < length (patches_of p level)

-- of a line of such a kind of a task of the list, on a patch of a level and a material of the task
pub record IsOnPatch (p : Problem) (tasks : List Task) (task line level material patch : ℕ) (fits : WriteKind → Bool) : Type 0 where
  pub t : Task
  pub w : Write
  pub task_at : slice_get tasks task ≡ Some t
  pub line_at : slice_get t.writes line ≡ Some w
  pub of_kind : fits w.kind ≡ true
  pub of_levels : Contains t.levels level
  pub of_materials : Contains t.materials material
  pub of_patches : patch < length (patches_of p level)

-- of a line of a task of the list that reduces
pub record IsNumberOf (tasks : List Task) (task line : ℕ) : Type 0 where
  pub t : Task
  pub w : Write
  pub task_at : slice_get tasks task ≡ Some t
  pub line_at : slice_get t.writes line ≡ Some w
  pub of_kind : is_reduces w.kind ≡ true

-- what stands in a list, by the kind of the slot
abbrev pub IsOfList : Problem → List Task → Slot → Type 0
IsOfList p tasks (Old name level material patch) = IsOldOn p name level material patch
IsOfList p tasks (OldNumber name) = Any (λ q. q.name ≡ name) p.reductions
IsOfList p tasks (New task line level material patch) = IsOnPatch p tasks task line level material patch is_of_field
IsOfList p tasks (Part task line level material patch) = IsOnPatch p tasks task line level material patch is_reduces
IsOfList p tasks (Number task line) = IsNumberOf tasks task line

-- a task of the list runs on a patch of a level, for a material
pub record IsRunOn (p : Problem) (tasks : List Task) (task level material patch : ℕ) : Type 0 where
  pub t : Task
  pub task_at : slice_get tasks task ≡ Some t
  pub of_levels : Contains t.levels level
  pub of_materials : Contains t.materials material
  pub of_patches : patch < length (patches_of p level)

-- which detailed tasks a list has
abbrev pub IsDetailOf : Problem → List Task → Detail → Type 0
IsDetailOf p tasks (OnPatch task level material patch) = IsRunOn p tasks task level material patch
IsDetailOf p tasks (Combining task line) = IsNumberOf tasks task line

-- What stands once in a list: each slot has one place, a task writes a variable by one line, and one line of one task reduces a reduction.
pub record AreOnce (p : Problem) (tasks : List Task) : Type 0 where
  pub slots : (i j : ℕ) (s : Slot) → StandsAt p tasks i s → StandsAt p tasks j s → i ≡ j
  pub fields : (name task a b : ℕ) → is_line_of tasks (λ w. is_of_field w.kind) name task a ≡ true → is_line_of tasks (λ w. is_of_field w.kind) name task b ≡ true → a ≡ b
  pub numbers : (name s a t b : ℕ) → is_line_of tasks (λ w. is_reduces w.kind) name s a ≡ true → is_line_of tasks (λ w. is_reduces w.kind) name t b ≡ true → (s ≡ t) × (a ≡ b)

-- some slots stand at these places, in their order
pub record StandInOrder (p : Problem) (tasks : List Task) (places : List ℕ) (slots : List Slot) : Type 0 where
  pub many : length places ≡ length slots
  pub each : (k place : ℕ) (s : Slot) → slice_get places k ≡ Some place → slice_get slots k ≡ Some s → StandsAt p tasks place s

-- each slot of a list is of its problem and its tasks
abbrev pub SlotsAreOfList : Type 0
SlotsAreOfList = (p : Problem) (tasks : List Task) (place : ℕ) (s : Slot) → StandsAt p tasks place s → IsOfList p tasks s

-- and so is each detailed task
abbrev pub DetailsAreOfList : Type 0
DetailsAreOfList = (p : Problem) (tasks : List Task) (place : ℕ) (d : Detail) → slice_get (details_of p tasks) place ≡ Some d → IsDetailOf p tasks d

-- in the lists of an accepted problem all that stands once
abbrev pub SlotsStandOnce : Type 0
SlotsStandOnce = (p : Problem) (list : ℕ) → IsProblemInForm p → IsAccepted p → list < 2 → AreOnce p (task_list p list)

-- what each detailed task writes stands in the order of its lines
abbrev pub WritesStandInOrder : Type 0
WritesStandInOrder = (p : Problem) (list place : ℕ) (d : Detail) → IsProblemInForm p → IsAccepted p → list < 2
    → slice_get (details_of p (task_list p list)) place ≡ Some d
    → StandInOrder p (task_list p list) (places_of (is_writing (task_list p list) d) (slots_of p (task_list p list))) (written_by (task_list p list) d)
