-- What a detailed task has gathered from the slots that it reads.
use Rattle.std.specs.Prelude.{◌≡◌, ℕ, pos, ◌+◌, ◌≤◌, true, not, Contains, Some, IsTrue, List, [], ◌∷◌, length, map, filter, slice_get, take}
use Rattle.uts_geom.specs.Spans.{is_inside}
use Rattle.uts_geom.specs.declared.index.Index.{Index}
use Rattle.kernel_ast.specs.declared.expression.How.{How}
use Rattle.kernel_ast.specs.declared.expression.How.TheVariants as how
use Rattle.problem_types.specs.Lists.{centring_of, fold_of, is_of_field, is_reduces, outside_of, task_list}
use Rattle.problem_types.specs.Regions.{ratio_of, spaces_of}
use Rattle.problem_types.specs.declared.problem.Problem.{Problem}
use Rattle.problem_types.specs.declared.problem.Level.{Level}
use Rattle.problem_types.specs.declared.problem.Require.{Require}
use Rattle.problem_types.specs.declared.problem.Task.{Task}
use Rattle.problem_types.specs.declared.problem.What.{What}
use Rattle.problem_types.specs.declared.problem.What.TheVariants as what
use Rattle.problem_types.specs.declared.problem.Write.{Write}
use Rattle.task_rules.specs.Lines.{wanted_level, wanted_name}
use Rattle.task_check.specs.Plan.{Detail, OnPatch, Combining, Slot, details_of, has_number, has_variable, is_of_number, patch_of, reads, slots_of, wanted_window}
use Rattle.task_check.specs.Supplies.{kernel_centring}
use Rattle.field_box.specs.declared.value.Value.{Value}
use Rattle.field_box.specs.declared.value.Value.TheVariants as value
use Rattle.ghost_gather.specs.Windows.{number_seen}
use Rattle.kernel_eval.specs.declared.part.Part.{Part}
use Rattle.kernel_eval.specs.declared.windows.Given.{Given}
use Rattle.kernel_eval.specs.declared.windows.Windows.{Windows}
use Rattle.kernel_sweeps.specs.Room.{room_on}
use Rattle.reductions.specs.Folding.{all_combined}
use Rattle.slot_contents.specs.Contents.{number_held, owned_on, stood}
use Rattle.slot_contents.specs.Laws.{IsTaskOf, RunsAt}
use Rattle.run_task.specs.declared.work.Site.{Site}
use Rattle.run_task.specs.declared.work.Work.{Work}
use Rattle.run_task.specs.declared.work.Work.TheVariants as work
use Rattle.run_task.specs.declared.work.PatchWork.{PatchWork}
use Rattle.run_task.specs.declared.work.CombiningWork.{CombiningWork}

-- the slots that a detailed task of a step reads, in their order
abbrev pub slots_read : Problem → (step : ℕ) → Detail → List Slot
slots_read p step d = filter (reads p (task_list p step) d) (slots_of p (task_list p step))

-- the form of part that a requirement of a variable fills
abbrev pub form_of : What → How
form_of (what.Same var layers) = how.Same
form_of (what.Coarse var layers) = how.Coarse
form_of (what.Fine var) = how.FineSum
form_of (what.Number name) = how.Same

-- the ratio between the level of a task and the one that is wanted, 1 on one level
abbrev pub ratio_wanted : Problem → What → (level : ℕ) → ℕ
ratio_wanted p (what.Same var layers) level = 1
ratio_wanted p (what.Coarse var layers) level = ratio_of p level
ratio_wanted p (what.Fine var) level = ratio_of p (level + 1)
ratio_wanted p (what.Number name) level = 1

-- the requirements of variables, and those of reductions, in the order of their lines
abbrev pub variables_required : Task → List Require
variables_required t = filter (λ r. not (is_of_number r.what)) t.requirements

abbrev pub numbers_required : Task → List Require
numbers_required t = filter (λ r. is_of_number r.what) t.requirements

-- the part is the one for a requirement: its window is the one that the task sees
pub record IsPartOf (p : Problem) (t : Task) (site : Site) (r : Require) (part : Part) : Type 0 where
  pub store : part.store ≡ r.store
  pub form : part.how ≡ form_of r.what
  pub name : part.name ≡ wanted_name r.what
  pub centring : part.centring ≡ centring_of p (wanted_name r.what)
  pub ratio : part.ratio ≡ pos (ratio_wanted p r.what site.level)
  pub span : (l : Level) → slice_get p.levels site.level ≡ Some l → part.window.span ≡ wanted_window p t r.store r.what site.level l site.patch
  pub space : spaces_of p (wanted_level r.what site.level) (centring_of p (wanted_name r.what)) ≡ part.window.space ∷ []
  pub outside : part.window.outside ≡ outside_of p (wanted_name r.what)

-- A part has what stood before the task at each index of its window that the patch of one of these slots owns.
abbrev pub HasSeen : Problem → Site → (seen : List Slot) → Require → Part → Type 0
HasSeen p site seen r part = (s : Slot) (i : Index) → Contains seen s
    → has_variable (task_list p site.step) site.task r.store (wanted_name r.what) site.material (wanted_level r.what site.level) s ≡ true
    → IsTrue (is_inside (owned_on p (wanted_level r.what site.level) (patch_of s) (centring_of p (wanted_name r.what))) i)
    → IsTrue (is_inside part.window.span i) → IsTrue (is_inside part.window.space i)
    → number_seen part.window i ≡ (stood p site.step site.task r.store).field (wanted_name r.what) site.material (wanted_level r.what site.level) i

-- these are the parts of some requirements, one each in their order, with what was seen
pub record AreParts (p : Problem) (t : Task) (site : Site) (seen : List Slot) (requirements : List Require) (parts : List Part) : Type 0 where
  pub many : length parts ≡ length requirements
  pub each : (k : ℕ) (r : Require) (part : Part) → slice_get requirements k ≡ Some r → slice_get parts k ≡ Some part
      → IsPartOf p t site r part × HasSeen p site seen r part

-- the number is the one for a requirement of a reduction, and what stood before the task where one of these slots has it
pub record IsGivenFor (p : Problem) (site : Site) (seen : List Slot) (r : Require) (given : Given) : Type 0 where
  pub store : given.store ≡ r.store
  pub name : given.name ≡ wanted_name r.what
  pub number : (s : Slot) → Contains seen s → has_number (task_list p site.step) r.store (wanted_name r.what) s ≡ true
      → given.number ≡ (stood p site.step site.task r.store).reduction (wanted_name r.what)

pub record AreGiven (p : Problem) (site : Site) (seen : List Slot) (requirements : List Require) (numbers : List Given) : Type 0 where
  pub many : length numbers ≡ length requirements
  pub each : (k : ℕ) (r : Require) (given : Given) → slice_get requirements k ≡ Some r → slice_get numbers k ≡ Some given → IsGivenFor p site seen r given

-- what a task sees on a patch, as far as these slots give it
pub record AreWindows (p : Problem) (t : Task) (site : Site) (seen : List Slot) (w : Windows) : Type 0 where
  pub parts : AreParts p t site seen (variables_required t) w.parts.items
  pub numbers : AreGiven p site seen (numbers_required t) w.numbers.items
  pub level_is : w.level ≡ site.level
  pub material_is : w.material ≡ site.material
  pub step_is : w.step ≡ site.step

-- the value is made for what a line writes on a patch: a field on what the patch owns, or a number
abbrev pub IsRoomFor : Problem → Site → Write → Value → Type 0
IsRoomFor p site w (value.Grid f) = (is_of_field w.kind ≡ true) × (f.span ≡ owned_on p site.level site.patch (centring_of p w.name))
IsRoomFor p site w (value.Number n) = is_reduces w.kind ≡ true

-- there is room for what each of these lines writes, in their order
pub record AreRoomFor (p : Problem) (site : Site) (writes : List Write) (outputs : List Value) : Type 0 where
  pub many : length outputs ≡ length writes
  pub each : (line : ℕ) (w : Write) (made : Value) → slice_get writes line ≡ Some w → slice_get outputs line ≡ Some made → IsRoomFor p site w made

-- there is room for what each line of a task writes, and for its kernel
pub record HasRoom (p : Problem) (t : Task) (site : Site) (outputs : List Value) (places : ℕ) : Type 0 where
  pub outputs_for : AreRoomFor p site t.writes outputs
  pub enough : (line : ℕ) (w : Write) → slice_get t.writes line ≡ Some w
      → room_on w.expr (owned_on p site.level site.patch (kernel_centring p w)) ≤ places

-- a detailed task on a patch has gathered these slots
pub record IsPatchWork (p : Problem) (t : Task) (site : Site) (seen : List Slot) (w : PatchWork) : Type 0 where
  pub windows : AreWindows p t site seen w.windows
  pub room : HasRoom p t site w.outputs.items (length w.scratch.items)

-- one that combines the parts of a line has combined these
pub record IsCombiningWork (p : Problem) (step : ℕ) (line : Write) (seen : List Slot) (w : CombiningWork) : Type 0 where
  pub fold : w.fold ≡ fold_of p line.name
  pub number : w.number ≡ all_combined (fold_of p line.name) (map (number_held p step) seen)
  pub room : length w.outputs.items ≡ 1

-- the place of a detailed task on a patch
abbrev pub site_of : (step task level material patch : ℕ) → Site
site_of step task level material patch = record { step = step; task = task; level = level; material = material; patch = patch }

-- the work of a detailed task that has gathered these slots
abbrev pub IsWork : Problem → (step : ℕ) → Detail → (seen : List Slot) → Work → Type 0
IsWork p step (OnPatch task level material patch) seen (work.Patch w) =
    (t : Task) × IsTaskOf p step task t × RunsAt p t level material patch × IsPatchWork p t (site_of step task level material patch) seen w
IsWork p step (Combining task line) seen (work.Combining w) =
    (t : Task) × (write : Write) × IsTaskOf p step task t × (slice_get t.writes line ≡ Some write) × (is_reduces write.kind ≡ true)
    × IsCombiningWork p step write seen w
IsWork p step d seen w = ⊥

-- The work of the detailed task of this number has gathered so many of the slots that it reads.
abbrev pub HasGathered : Problem → (step : ℕ) → (task gathered : ℕ) → Work → Type 0
HasGathered p step task gathered w =
    (d : Detail) × (slice_get (details_of p (task_list p step)) task ≡ Some d) × IsWork p step d (take gathered (slots_read p step d)) w
