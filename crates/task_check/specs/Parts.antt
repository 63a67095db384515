-- The faults of a problem part by part, in the order of its lines.
use Rattle.std.specs.Prelude.{◌≡◌, ◌⊎◌, ℕ, ◌<◌, List, slice_get, Some}
use Rattle.problem_types.specs.Lists.{task_list}
use Rattle.problem_types.specs.declared.problem.Problem.{Problem}
use Rattle.problem_types.specs.declared.problem.Num.{Num}
use Rattle.problem_types.specs.declared.problem.Task.{Task}
use Rattle.task_check.specs.declared.fault.FaultKind.{FaultKind}
use Rattle.task_check.specs.declared.fault.FaultKind.TheVariants.{TooLarge}
use Rattle.task_check.specs.declared.fault.Which.{Which}
use Rattle.task_check.specs.declared.fault.Which.TheVariants as limit
use Rattle.task_check.specs.Lines.{LevelFault, VariableFault, ReductionFault, TaskFault, RequireFault, WriteFault, KeepFault}

-- a fault of one part or of the other
abbrev pub Either : (ℕ → FaultKind → Type 0) → (ℕ → FaultKind → Type 0) → ℕ → FaultKind → Type 0
Either first second line k = first line k ⊎ second line k

-- on this line a fault of one of these kinds
abbrev pub OnLine : ℕ → (FaultKind → Type 0) → ℕ → FaultKind → Type 0
OnLine at stands line k = (line ≡ at) × stands k

-- a fault of one of these items, by its place and itself
pub record Within {A : Type 0} (items : List A) (faults : ℕ → A → ℕ → FaultKind → Type 0) (line : ℕ) (k : FaultKind) : Type 0 where
  pub place : ℕ
  pub item : A
  pub at : slice_get items place ≡ Some item
  pub fault : faults place item line k

-- a number above its limit
abbrev pub NumberFault : Num → (most : ℕ) → Which → FaultKind → Type 0
NumberFault n most which k = (k ≡ TooLarge which) × (most < n.value)

abbrev pub OnNumber : Num → (most : ℕ) → Which → ℕ → FaultKind → Type 0
OnNumber n most which = OnLine n.line (NumberFault n most which)

-- the lines before the levels
abbrev pub OfNumbers : Problem → ℕ → FaultKind → Type 0
OfNumbers p = Either (OnNumber p.steps 65535 limit.Steps) (Either (OnNumber p.dump 65535 limit.Dump)
    (Either (OnNumber p.ghost_limit 8 limit.Ghost) (OnNumber p.materials 8 limit.Materials)))

abbrev pub OfLevels : Problem → ℕ → FaultKind → Type 0
OfLevels p = Within p.levels (λ level l. OnLine l.line (LevelFault p level l))

abbrev pub OfVariables : Problem → ℕ → FaultKind → Type 0
OfVariables p = Within p.vars (λ place v. OnLine v.line (VariableFault p place v))

abbrev pub OfReductions : Problem → ℕ → FaultKind → Type 0
OfReductions p = Within p.reductions (λ place q. OnLine q.line (ReductionFault p place q))

-- the lines under a task
abbrev pub OfRequirements : Problem → (list place : ℕ) → Task → ℕ → FaultKind → Type 0
OfRequirements p list place t = Within t.requirements (λ at_line r. OnLine r.line (RequireFault p list place t at_line r))

abbrev pub OfWrites : Problem → (list place : ℕ) → Task → ℕ → FaultKind → Type 0
OfWrites p list place t = Within t.writes (λ at_line w. OnLine w.line (WriteFault p list place t at_line w))

-- a task with the lines under it
abbrev pub OfTask : Problem → (list place : ℕ) → Task → ℕ → FaultKind → Type 0
OfTask p list place t = Either (OnLine t.line (TaskFault p list place t)) (Either (OfRequirements p list place t) (OfWrites p list place t))

abbrev pub OfTasks : Problem → (list : ℕ) → ℕ → FaultKind → Type 0
OfTasks p list = Within (task_list p list) (OfTask p list)

abbrev pub OfKeeps : Problem → ℕ → FaultKind → Type 0
OfKeeps p = Within p.keeps (λ place keep. OnLine keep.line (KeepFault p place keep))

-- the grid: the first lines and the levels
abbrev pub OfGrid : Problem → ℕ → FaultKind → Type 0
OfGrid p = Either (OfNumbers p) (OfLevels p)

-- the two lists of tasks, and what is kept
abbrev pub OfLists : Problem → ℕ → FaultKind → Type 0
OfLists p = Either (OfTasks p 0) (Either (OfTasks p 1) (OfKeeps p))

abbrev pub OfLines : Problem → ℕ → FaultKind → Type 0
OfLines p = Either (OfGrid p) (Either (OfVariables p) (Either (OfReductions p) (OfLists p)))
