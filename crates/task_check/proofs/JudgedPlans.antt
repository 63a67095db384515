-- Whether a plan is above a limit is judged.
use Rattle.std.proofs.Common.{inr, ◌<◌, List}
use Rattle.problem_types.specs.declared.problem.Problem.{Problem}
use Rattle.problem_types.specs.declared.problem.Task.{Task}
use Rattle.task_check.specs.declared.fault.Which.{Which}
use Rattle.task_check.specs.declared.fault.Which.TheVariants as limit
use Rattle.task_check.specs.declared.fault.FaultKind.{FaultKind}
use Rattle.task_check.specs.declared.fault.FaultKind.TheVariants.{TooLarge}
use Rattle.task_check.specs.Plan.{details_of}
use Rattle.task_check.specs.Counts.{gathered, detailed_count, slot_count, read_count, stored_count, IsAbove, IsPlanTooLarge}
use Rattle.task_check.specs.Parts.{OnLine}
use Rattle.task_check.proofs.Judging.{Judged, either, below, any}
use Rattle.task_check.proofs.FirstOf.{FirstOrNone, of_line}

above : (p : Problem) (tasks : List Task) (which : Which) → Judged (IsAbove p tasks which)
above p tasks limit.Detailed = below 65536 (detailed_count p tasks)
above p tasks limit.Slots = below 262144 (slot_count p tasks)
above p tasks limit.Reads = below 2097152 (read_count p tasks)
above p tasks limit.Stored = below 16777216 (stored_count p tasks)
above p tasks limit.Gathered = any (λ d. 2097152 < gathered p tasks d) (λ d. below 2097152 (gathered p tasks d)) (details_of p tasks)
above p tasks other = inr (λ h. h)

-- a plan above a limit, as a kind of fault
abbrev pub PlanFault : Problem → FaultKind → Type 0
PlanFault p (TooLarge which) = IsPlanTooLarge p which
PlanFault p other = ⊥

plan_fault : (p : Problem) (k : FaultKind) → Judged (PlanFault p k)
plan_fault p (TooLarge which) = either (above p p.init which) (above p p.timestep which)
plan_fault p other = inr (λ h. h)

pub of_plans : (p : Problem) → FirstOrNone (OnLine p.end_line (PlanFault p))
of_plans p = of_line p.end_line (PlanFault p) (plan_fault p)
