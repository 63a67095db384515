-- Each problem is accepted or has a first fault.
use Rattle.std.proofs.Common.{◌≡◌, ◌⊎◌, inl, inr, ◌↔◌, ◌≤◌, ◌<◌, ℕ, refl, arith}
use Rattle.std.specs.Prelude.{IsTrue, Contains}
use Rattle.uts_geom.specs.declared.index.Index.{Index}
use Rattle.uts_geom.specs.declared.span.Span.{Span}
use Rattle.uts_geom.specs.Spans.{is_inside, indexes_of}
use Rattle.problem_types.specs.Lists.{task_list}
use Rattle.problem_types.specs.declared.problem.Problem.{Problem}
use Rattle.problem_types.specs.declared.problem.Num.{Num}
use Rattle.problem_types.specs.declared.problem.Task.{Task}
use Rattle.task_check.specs.declared.fault.Which.{Which}
use Rattle.task_check.specs.declared.fault.Which.TheVariants as limit
use Rattle.task_check.specs.declared.fault.FaultKind.{FaultKind}
use Rattle.task_check.specs.declared.fault.FaultKind.TheVariants.{TooLarge}
use Rattle.task_check.specs.Faults.{HasFault}
use Rattle.task_check.specs.First.{limit_rank, ComesFirst, IsFirstOf, IsFaultless, IsFirstFault, IsAccepted, of_lines, of_plans}
use Rattle.task_check.specs.Lines.{LevelFault, VariableFault, ReductionFault, TaskFault, RequireFault, WriteFault, KeepFault}
use Rattle.task_check.specs.Parts.{OnLine, OnNumber, OfNumbers, OfLevels, OfVariables, OfReductions, OfRequirements, OfWrites, OfTask, OfTasks, OfKeeps, OfLines}
use Rattle.task_check.specs.Laws.{ProblemsAreJudged}
use Rattle.task_check.proofs.Judging.{below}
use Rattle.task_check.proofs.FirstOf.{FirstOrNone, of_either, of_same, of_items, of_one, of_line, of_statements}
use Rattle.task_check.proofs.Whole.{part_of, part_stands}
use Rattle.task_check.proofs.JudgedLines.{level_fault, variable_fault, reduction_fault, task_fault, require_fault, write_fault, keep_fault}
use Rattle.task_check.proofs.JudgedPlans.{PlanFault, of_plans as first_of_plans}

of_number : (n : Num) (most : ℕ) (which : Which) → FirstOrNone (OnNumber n most which)
of_number n most which = of_one n.line (λ k. most < n.value) (TooLarge which) (below most n.value)

of_numbers : (p : Problem) → FirstOrNone (OfNumbers p)
of_numbers p =
    of_either (of_number p.steps 65535 limit.Steps) (of_either (of_number p.dump 65535 limit.Dump)
    (of_either (of_number p.ghost_limit 8 limit.Ghost) (of_number p.materials 8 limit.Materials)))

of_variables : (p : Problem) → FirstOrNone (OfVariables p)
of_variables p = of_statements (λ v. v.line) (VariableFault p) (variable_fault p) p.vars

of_reductions : (p : Problem) → FirstOrNone (OfReductions p)
of_reductions p = of_statements (λ q. q.line) (ReductionFault p) (reduction_fault p) p.reductions

of_requirements : (p : Problem) (list place : ℕ) (t : Task) → FirstOrNone (OfRequirements p list place t)
of_requirements p list place t = of_statements (λ r. r.line) (RequireFault p list place t) (require_fault p list place t) t.requirements

of_writes : (p : Problem) (list place : ℕ) (t : Task) → FirstOrNone (OfWrites p list place t)
of_writes p list place t = of_statements (λ w. w.line) (WriteFault p list place t) (write_fault p list place t) t.writes

of_task : (p : Problem) (list place : ℕ) (t : Task) → FirstOrNone (OfTask p list place t)
of_task p list place t =
    of_either (of_line t.line (TaskFault p list place t) (task_fault p list place t))
    (of_either (of_requirements p list place t) (of_writes p list place t))

of_tasks : (p : Problem) (list : ℕ) → FirstOrNone (OfTasks p list)
of_tasks p list = of_items (OfTask p list) (of_task p list) (task_list p list)

of_keeps : (p : Problem) → FirstOrNone (OfKeeps p)
of_keeps p = of_statements (λ keep. keep.line) (KeepFault p) (keep_fault p) p.keeps

-- where no line has a fault, the first fault is of the plans
plan_rank : (line : ℕ) (which : Which) (end : ℕ) (other : Which) → line ≡ end → ComesFirst line (TooLarge which) end (TooLarge other) →
    limit_rank which ≤ limit_rank other
plan_rank line which end other same (inl before) = absurd (omega arith)
plan_rank line which end other same (inr (again, le)) = le

first_plan : (p : Problem) (line : ℕ) (k : FaultKind) → IsFaultless p → IsFirstOf (OnLine p.end_line (PlanFault p)) line k →
    (n : ℕ) × (o : FaultKind) × IsFirstFault p n o
first_plan p line (TooLarge which) faultless f = (
  p.end_line,
  TooLarge which,
  of_plans which faultless f.is_one.1
      (λ other above. plan_rank line which p.end_line other f.is_one.0 (f.none_before p.end_line (TooLarge other) (refl, above))),
)
first_plan p line other faultless f = absurd f.is_one.1

by_plans : (p : Problem) → IsFaultless p → FirstOrNone (OnLine p.end_line (PlanFault p)) →
    IsAccepted p ⊎ ((line : ℕ) × (k : FaultKind) × IsFirstFault p line k)
by_plans p faultless (inl none) = inl (record { faultless = faultless; plans = λ which above. none p.end_line (TooLarge which) (refl, above) })
by_plans p faultless (inr (line, k, f)) = inr (first_plan p line k faultless f)

by_lines : (p : Problem) → FirstOrNone (HasFault p) → IsAccepted p ⊎ ((line : ℕ) × (k : FaultKind) × IsFirstFault p line k)
by_lines p (inl none) = by_plans p none (first_of_plans p)
by_lines p (inr (line, k, f)) = inr (line, k, of_lines line k f)

module _ (holds : (s : Span) (i : Index) → Contains (indexes_of s) i ↔ IsTrue (is_inside s i)) where
  of_levels : (p : Problem) → FirstOrNone (OfLevels p)
  of_levels p = of_statements (λ l. l.line) (LevelFault p) (level_fault holds p) p.levels

  of_parts : (p : Problem) → FirstOrNone (OfLines p)
  of_parts p =
      of_either (of_either (of_numbers p) (of_levels p)) (of_either (of_variables p) (of_either (of_reductions p)
      (of_either (of_tasks p 0) (of_either (of_tasks p 1) (of_keeps p)))))

  pub judged : ProblemsAreJudged
  judged p form = by_lines p (of_same (part_stands p) (part_of p) (of_parts p))
