-- Why a detailed task that is given what its slots have to hold gives what its own have to hold.
use Rattle.std.specs.Prelude.{◌≡◌, ℕ, ◌+◌, ◌<◌, true, false, Some, Contains, IsTrue, length, map, filter, slice_get}
use Rattle.uts_geom.specs.Spans.{is_inside}
use Rattle.uts_geom.specs.declared.index.Index.{Index}
use Rattle.kernel_ast.specs.declared.expression.Store.{Store}
use Rattle.problem_types.specs.Form.{IsProblemInForm}
use Rattle.problem_types.specs.Lists.{centring_of, fold_of, is_of_field, is_reduces, outside_of, task_list}
use Rattle.problem_types.specs.Regions.{is_in_space}
use Rattle.problem_types.specs.declared.problem.Problem.{Problem}
use Rattle.problem_types.specs.declared.problem.Level.{Level}
use Rattle.problem_types.specs.declared.problem.Require.{Require}
use Rattle.problem_types.specs.declared.problem.Task.{Task}
use Rattle.problem_types.specs.declared.problem.Write.{Write}
use Rattle.task_rules.specs.Lines.{wanted_level, wanted_name}
use Rattle.task_check.specs.First.{IsAccepted}
use Rattle.task_check.specs.Plan.{Slot, OnPatch, has_number, has_variable, is_of_number, is_part_of, patch_of, patches_of, reads, slots_of, wanted_window}
use Rattle.reductions.specs.Folding.{all_combined}
use Rattle.uts_model.specs.WholeField.{field_at, reduction_at}
use Rattle.slot_contents.specs.Contents.{kernel_number, number_held, numbers_held, owned_on, stood}

-- a task of a step of an accepted problem, at its place in the step's list
pub record IsTaskOf (p : Problem) (step task : ℕ) (t : Task) : Type 0 where
  pub form : IsProblemInForm p
  pub accepted : IsAccepted p
  pub stands : slice_get (task_list p step) task ≡ Some t

-- it runs on a patch of this level, for this material
pub record RunsAt (p : Problem) (t : Task) (level material patch : ℕ) : Type 0 where
  pub level_there : Contains t.levels level
  pub material_there : Contains t.materials material
  pub patch_there : patch < length (patches_of p level)

-- a slot of the step's list
abbrev pub IsSlotOf : Problem → (step : ℕ) → Slot → Type 0
IsSlotOf p step s = Contains (slots_of p (task_list p step)) s

-- A slot that has a variable as it stands for a task, in a store, holds there what stood before the task.
abbrev pub SlotsHoldWhatStood : Type 0
SlotsHoldWhatStood = (p : Problem) (step task : ℕ) (t : Task) (at : Store) (name material level : ℕ) (s : Slot) (i : Index) → IsTaskOf p step task t → IsSlotOf p step s
    → has_variable (task_list p step) task at name material level s ≡ true → IsTrue (is_inside (owned_on p level (patch_of s) (centring_of p name)) i)
    → numbers_held p step s i ≡ (stood p step task at).field name material level i

-- a slot that a detailed task on a patch reads, which has what a requirement wants at an index
pub record HasIndex (p : Problem) (step task level material patch : ℕ) (r : Require) (i : Index) (s : Slot) : Type 0 where
  pub slot : IsSlotOf p step s
  pub is_read : reads p (task_list p step) (OnPatch task level material patch) s ≡ true
  pub variable : has_variable (task_list p step) task r.store (wanted_name r.what) material (wanted_level r.what level) s ≡ true
  pub owned : IsTrue (is_inside (owned_on p (wanted_level r.what level) (patch_of s) (centring_of p (wanted_name r.what))) i)

-- Each index that lies in the window of a requirement and in the index space of its variable is owned by the patch of a slot that is read.
abbrev pub WindowsAreCovered : Type 0
WindowsAreCovered = (p : Problem) (step task : ℕ) (t : Task) (level material patch : ℕ) (l : Level) (r : Require) (i : Index) → IsTaskOf p step task t
    → RunsAt p t level material patch → slice_get p.levels level ≡ Some l → Contains t.requirements r → is_of_number r.what ≡ false
    → IsTrue (is_inside (wanted_window p t r.store r.what level l patch) i)
    → IsTrue (is_in_space p (wanted_level r.what level) (centring_of p (wanted_name r.what)) i)
    → (s : Slot) × HasIndex p step task level material patch r i s

-- Outside its index space a variable that a task requires stands at its outside number.
abbrev pub OutsideStandsOutside : Type 0
OutsideStandsOutside = (p : Problem) (step task : ℕ) (t : Task) (level material : ℕ) (r : Require) (i : Index) → IsTaskOf p step task t
    → Contains t.requirements r → is_of_number r.what ≡ false → is_in_space p (wanted_level r.what level) (centring_of p (wanted_name r.what)) i ≡ false
    → (stood p step task r.store).field (wanted_name r.what) material (wanted_level r.what level) i ≡ outside_of p (wanted_name r.what)

-- A slot that has the number of a reduction, which a task requires, holds what stood before the task.
abbrev pub NumbersHoldWhatStood : Type 0
NumbersHoldWhatStood = (p : Problem) (step task : ℕ) (t : Task) (r : Require) (s : Slot) → IsTaskOf p step task t → Contains t.requirements r
    → is_of_number r.what ≡ true → IsSlotOf p step s → has_number (task_list p step) r.store (wanted_name r.what) s ≡ true
    → number_held p step s ≡ (stood p step task r.store).reduction (wanted_name r.what)

-- a slot that a detailed task on a patch reads, which has the number that a requirement wants
pub record HasNumber (p : Problem) (step task level material patch : ℕ) (r : Require) (s : Slot) : Type 0 where
  pub slot : IsSlotOf p step s
  pub is_read : reads p (task_list p step) (OnPatch task level material patch) s ≡ true
  pub number : has_number (task_list p step) r.store (wanted_name r.what) s ≡ true

-- There is such a slot.
abbrev pub NumbersAreRead : Type 0
NumbersAreRead = (p : Problem) (step task : ℕ) (t : Task) (level material patch : ℕ) (r : Require) → IsTaskOf p step task t
    → RunsAt p t level material patch → Contains t.requirements r → is_of_number r.what ≡ true → (s : Slot) × HasNumber p step task level material patch r s

-- The parts of a line that reduces, combined, are the reduction after the task.
abbrev pub PartsMakeReductions : Type 0
PartsMakeReductions = (p : Problem) (step task line : ℕ) (t : Task) (w : Write) → IsTaskOf p step task t → slice_get t.writes line ≡ Some w → is_reduces w.kind ≡ true
    → all_combined (fold_of p w.name) (map (number_held p step) (filter (is_part_of task line) (slots_of p (task_list p step))))
    ≡ reduction_at p step (task + 1) w.name

-- The numbers of a line's kernel on what a patch owns are the line's variable after the task.
abbrev pub KernelsMakeFields : Type 0
KernelsMakeFields = (p : Problem) (step task line : ℕ) (t : Task) (w : Write) (level material patch : ℕ) (i : Index) → IsTaskOf p step task t
    → slice_get t.writes line ≡ Some w → is_of_field w.kind ≡ true → RunsAt p t level material patch
    → IsTrue (is_inside (owned_on p level patch (centring_of p w.name)) i)
    → kernel_number p step task w level material i ≡ field_at p step (task + 1) w.name material level i
