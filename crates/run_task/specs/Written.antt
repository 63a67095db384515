-- What a detailed task on a patch writes.
use Rattle.std.specs.Prelude.{◌≡◌, ℕ, ◌≤◌, List, Some, length, slice_get}
use Rattle.problem_types.specs.declared.problem.Problem.{Problem}
use Rattle.problem_types.specs.declared.problem.Write.{Write}
use Rattle.task_check.specs.Plan.{slot_written}
use Rattle.task_check.specs.Supplies.{kernel_centring}
use Rattle.field_box.specs.declared.value.Value.{Value}
use Rattle.kernel_sweeps.specs.Room.{room_on}
use Rattle.slot_contents.specs.Contents.{content_of, owned_on}
use Rattle.slot_contents.specs.Values.{Fits}
use Rattle.run_task.specs.Gathered.{IsRoomFor}
use Rattle.run_task.specs.declared.patch_kernels.PatchKernels.{PatchKernels}
use Rattle.run_task.specs.declared.work.Site.{Site}

-- the value is what a line of the task writes
abbrev pub IsOfLine : Problem → Site → (line : ℕ) → Write → Value → Type 0
IsOfLine p site line w value = Fits (content_of p site.step (slot_written w.kind site.task line site.level site.material site.patch)) value

-- the value is made for this line, and there are places enough for its kernel
abbrev pub IsReadyFor : PatchKernels → (line : ℕ) → Value → (places : ℕ) → Type 0
IsReadyFor k line value places = (w : Write) → slice_get k.task.now.writes line ≡ Some w → IsRoomFor k.checked.now k.site w value
    × (room_on w.expr (owned_on k.checked.now k.site.level k.site.patch (kernel_centring k.checked.now w)) ≤ places)

-- the value is what this line writes
abbrev pub IsWritten : PatchKernels → (line : ℕ) → Value → Type 0
IsWritten k line value = (w : Write) → slice_get k.task.now.writes line ≡ Some w → IsOfLine k.checked.now k.site line w value

-- a value for each line of the task, which is what the line writes
pub record AreWritten (k : PatchKernels) (values : List Value) : Type 0 where
  pub many : length values ≡ length k.task.now.writes
  pub each : (line : ℕ) (value : Value) → slice_get values line ≡ Some value → IsWritten k line value
