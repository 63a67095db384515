-- The faults of a problem, each on its line. The counts of the plans are apart, since they are looked at where no fault stands here.
use Rattle.std.specs.Prelude.{◌≡◌, ℕ, ◌<◌, slice_get, Some}
use Rattle.problem_types.specs.declared.problem.Problem.{Problem}
use Rattle.problem_types.specs.declared.problem.Level.{Level}
use Rattle.problem_types.specs.declared.problem.Var.{Var}
use Rattle.problem_types.specs.declared.problem.Reduction.{Reduction}
use Rattle.problem_types.specs.declared.problem.Keep.{Keep}
use Rattle.problem_types.specs.declared.problem.Task.{Task}
use Rattle.problem_types.specs.declared.problem.Require.{Require}
use Rattle.problem_types.specs.declared.problem.Write.{Write}
use Rattle.task_check.specs.declared.fault.FaultKind.{FaultKind}
use Rattle.task_check.specs.declared.fault.FaultKind.TheVariants.{TooLarge}
use Rattle.task_check.specs.declared.fault.Which.TheVariants as limit
use Rattle.task_check.specs.Lines.{LevelFault, VariableFault, ReductionFault, TaskFault, RequireFault, WriteFault, KeepFault}
use Rattle.task_check.specs.Places.{IsTaskAt, IsRequireAt, IsWriteAt}

-- the problem has a fault of this kind on this line
pub data HasFault (p : Problem) : ℕ → FaultKind → Type 0 where
  of_steps : 65535 < p.steps.value → HasFault p p.steps.line (TooLarge limit.Steps)
  of_dump : 65535 < p.dump.value → HasFault p p.dump.line (TooLarge limit.Dump)
  of_ghost : 8 < p.ghost_limit.value → HasFault p p.ghost_limit.line (TooLarge limit.Ghost)
  of_materials : 8 < p.materials.value → HasFault p p.materials.line (TooLarge limit.Materials)
  of_level : (level : ℕ) (l : Level) (k : FaultKind) → slice_get p.levels level ≡ Some l → LevelFault p level l k → HasFault p l.line k
  of_variable : (place : ℕ) (v : Var) (k : FaultKind) → slice_get p.vars place ≡ Some v → VariableFault p place v k → HasFault p v.line k
  of_reduction : (place : ℕ) (q : Reduction) (k : FaultKind) → slice_get p.reductions place ≡ Some q → ReductionFault p place q k → HasFault p q.line k
  of_task : (list place : ℕ) (t : Task) (k : FaultKind) → IsTaskAt p list place t → TaskFault p list place t k → HasFault p t.line k
  of_require : (list place : ℕ) (t : Task) (at_line : ℕ) (r : Require) (k : FaultKind) → IsRequireAt p list place t at_line r
      → RequireFault p list place t at_line r k → HasFault p r.line k
  of_write : (list place : ℕ) (t : Task) (at_line : ℕ) (w : Write) (k : FaultKind) → IsWriteAt p list place t at_line w
      → WriteFault p list place t at_line w k → HasFault p w.line k
  of_keep : (place : ℕ) (keep : Keep) (k : FaultKind) → slice_get p.keeps place ≡ Some keep → KeepFault p place keep k → HasFault p keep.line k
