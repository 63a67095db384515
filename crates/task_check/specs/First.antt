-- The order of faults, and the first one.
use Rattle.std.specs.Prelude.{◌≡◌, ◌⊎◌, ℕ, ◌<◌, ◌≤◌, Option, Some, None}
use Rattle.problem_types.specs.declared.problem.Problem.{Problem}
use Rattle.task_check.specs.declared.fault.Which.{Which}
use Rattle.task_check.specs.declared.fault.Which.TheVariants as limit
use Rattle.task_check.specs.declared.fault.FaultKind.{FaultKind}
use Rattle.task_check.specs.declared.fault.FaultKind.TheVariants as kind
use Rattle.task_check.specs.declared.fault.Fault.{Fault}
use Rattle.task_check.specs.Faults.{HasFault}
use Rattle.task_check.specs.Counts.{IsPlanTooLarge}

-- limits in their order on one line
abbrev pub limit_rank : Which → ℕ
limit_rank limit.Steps = 0
limit_rank limit.Dump = 1
limit_rank limit.Ghost = 2
limit_rank limit.Materials = 3
limit_rank limit.Levels = 4
limit_rank limit.Bounds = 5
limit_rank limit.Patches = 6
limit_rank limit.Cells = 7
limit_rank limit.Variables = 8
limit_rank limit.Reductions = 9
limit_rank limit.Tasks = 10
limit_rank limit.Lines = 11
limit_rank limit.Detailed = 12
limit_rank limit.Slots = 13
limit_rank limit.Reads = 14
limit_rank limit.Stored = 15
limit_rank limit.Gathered = 16

-- kinds in their order on one line: limits first
abbrev pub rank : FaultKind → ℕ
rank (kind.TooLarge which) = limit_rank which
rank kind.BadGrid = 17
rank kind.Unknown = 18
rank kind.Twice = 19
rank kind.GhostTooWide = 20
rank kind.ReadBeyondGhost = 21
rank kind.MissingLevel = 22
rank kind.MissingCompute = 23
rank kind.DoubleCompute = 24
rank kind.UnorderedModify = 25

-- the fault on one line comes before that on another, or they are of the same rank on one line
abbrev pub ComesFirst : (line : ℕ) → FaultKind → (other_line : ℕ) → FaultKind → Type 0
ComesFirst line k other_line other = (line < other_line) ⊎ ((line ≡ other_line) × (rank k ≤ rank other))

-- the fault stands, and none stands before it
pub record IsFirstOf (stands : ℕ → FaultKind → Type 0) (line : ℕ) (k : FaultKind) : Type 0 where
  pub is_one : stands line k
  pub none_before : (other_line : ℕ) (other : FaultKind) → stands other_line other → ComesFirst line k other_line other

-- of the kinds that stand on one line, the first if there is one
abbrev pub IsFirstKind : (FaultKind → Type 0) → Option FaultKind → Type 0
IsFirstKind stands None = (k : FaultKind) → stands k → ⊥
IsFirstKind stands (Some first) = stands first × ((k : FaultKind) → stands k → rank first ≤ rank k)

-- of the faults that stand, the first if there is one
abbrev pub IsFirst : (ℕ → FaultKind → Type 0) → Option Fault → Type 0
IsFirst stands None = (line : ℕ) (k : FaultKind) → stands line k → ⊥
IsFirst stands (Some f) = IsFirstOf stands f.line f.kind

-- of the limits that a plan is above, the first if there is one
abbrev pub IsFirstLimit : (Which → Type 0) → Option Which → Type 0
IsFirstLimit above None = (which : Which) → above which → ⊥
IsFirstLimit above (Some first) = above first × ((which : Which) → above which → limit_rank first ≤ limit_rank which)

-- no line has a fault
abbrev pub IsFaultless : Problem → Type 0
IsFaultless p = (line : ℕ) (k : FaultKind) → HasFault p line k → ⊥

-- The first fault of a problem: the first on its lines, and where there is none, the first limit, in their order, above which the plan
-- of one of the two lists is, on the line of `end`.
pub data IsFirstFault (p : Problem) : ℕ → FaultKind → Type 0 where
  of_lines : (line : ℕ) (k : FaultKind) → IsFirstOf (HasFault p) line k → IsFirstFault p line k
  of_plans : (which : Which) → IsFaultless p → IsPlanTooLarge p which
      → ((other : Which) → IsPlanTooLarge p other → limit_rank which ≤ limit_rank other) → IsFirstFault p p.end_line (kind.TooLarge which)

-- the problem has no fault: none on its lines, and no plan is above a limit
pub record IsAccepted (p : Problem) : Type 0 where
  pub faultless : IsFaultless p
  pub plans : (which : Which) → IsPlanTooLarge p which → ⊥
