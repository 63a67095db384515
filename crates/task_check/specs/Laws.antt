-- What holds of the first faults of problems.
use Rattle.std.specs.Prelude.{◌≡◌, ◌⊎◌, ℕ}
use Rattle.problem_types.specs.Form.{IsProblemInForm}
use Rattle.problem_types.specs.declared.problem.Problem.{Problem}
use Rattle.task_check.specs.declared.fault.FaultKind.{FaultKind}
use Rattle.task_check.specs.Bounds.{IsBounded}
use Rattle.task_check.specs.First.{IsAccepted, IsFirstFault}

-- each problem in form is accepted, or has a first fault
abbrev pub ProblemsAreJudged : Type 0
ProblemsAreJudged = (p : Problem) → IsProblemInForm p → IsAccepted p ⊎ ((line : ℕ) × (k : FaultKind) × IsFirstFault p line k)

-- there is one first fault at most
abbrev pub FirstFaultsAreOne : Type 0
FirstFaultsAreOne = (p : Problem) (line : ℕ) (k : FaultKind) (other_line : ℕ) (other : FaultKind) → IsFirstFault p line k → IsFirstFault p other_line other
    → (line ≡ other_line) × (k ≡ other)

-- an accepted problem has none
abbrev pub AcceptedProblemsHaveNone : Type 0
AcceptedProblemsHaveNone = (p : Problem) (line : ℕ) (k : FaultKind) → IsAccepted p → IsFirstFault p line k → ⊥

-- an accepted problem keeps the limits, and has what its lines name
abbrev pub AcceptedProblemsAreBounded : Type 0
AcceptedProblemsAreBounded = (p : Problem) → IsProblemInForm p → IsAccepted p → IsBounded p
