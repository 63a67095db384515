-- The faults of all parts are the faults of the problem.
use Rattle.std.proofs.Common.{◌≡◌, inl, inr, ℕ, zero, suc, ◌<◌, ◌≤◌, arith, refl, sym, subst, Option, Some, None}
use Rattle.uts_geom.specs.Lists.{not_above}
use Rattle.problem_types.specs.declared.problem.Problem.{Problem}
use Rattle.task_check.specs.declared.fault.Fault.{Fault}
use Rattle.task_check.specs.declared.fault.FaultKind.{FaultKind}
use Rattle.task_check.specs.declared.fault.FaultKind.TheVariants as kind
use Rattle.task_check.specs.declared.fault.Which.TheVariants as limit
use Rattle.task_check.specs.First.{IsFirst}
use Rattle.task_check.specs.Places.{IsTaskAt}
use Rattle.task_check.specs.Faults.{HasFault, of_steps, of_dump, of_ghost, of_materials, of_level, of_variable, of_reduction, of_task, of_require, of_write, of_keep}
use Rattle.task_check.specs.Parts.{OfNumbers, OfGrid, OfTask, OfTasks, OfLines}

moved_to : (P : ℕ → FaultKind → Type 0) (l m : ℕ) (j k : FaultKind) → l ≡ m → j ≡ k → P m k → P l j
moved_to P l m j k on is h = subst (λ n. P n j) (sym on) (subst (P m) (sym is) h)

module _ (p : Problem) where
  of_numbers : (line : ℕ) (k : FaultKind) → OfNumbers p line k → HasFault p line k
  of_numbers line k (inl (on, (is, above))) = moved_to (HasFault p) line _ k _ on is (of_steps above)
  of_numbers line k (inr (inl (on, (is, above)))) = moved_to (HasFault p) line _ k _ on is (of_dump above)
  of_numbers line k (inr (inr (inl (on, (is, above))))) = moved_to (HasFault p) line _ k _ on is (of_ghost above)
  of_numbers line k (inr (inr (inr (on, (is, above))))) = moved_to (HasFault p) line _ k _ on is (of_materials above)

  of_tasks : (list : ℕ) → list < 2 → (line : ℕ) (k : FaultKind) → OfTasks p list line k → HasFault p line k
  of_tasks list two line k s = of_parts s.fault where
    there : IsTaskAt p list s.place s.item
    there = record { of_two = two; stands = s.at }

    of_parts : OfTask p list s.place s.item line k → HasFault p line k
    of_parts (inl (on, fault)) = subst (λ l. HasFault p l k) (sym on) (of_task list s.place s.item k there fault)
    of_parts (inr (inl r)) = subst (λ l. HasFault p l k) (sym r.fault.0)
        (of_require list s.place s.item r.place r.item k (record { task = there; stands = r.at }) r.fault.1)
    of_parts (inr (inr w)) = subst (λ l. HasFault p l k) (sym w.fault.0)
        (of_write list s.place s.item w.place w.item k (record { task = there; stands = w.at }) w.fault.1)

  pub part_stands : (line : ℕ) (k : FaultKind) → OfLines p line k → HasFault p line k
  part_stands line k (inl (inl s)) = of_numbers line k s
  part_stands line k (inl (inr s)) = subst (λ l. HasFault p l k) (sym s.fault.0) (of_level s.place s.item k s.at s.fault.1)
  part_stands line k (inr (inl s)) = subst (λ l. HasFault p l k) (sym s.fault.0) (of_variable s.place s.item k s.at s.fault.1)
  part_stands line k (inr (inr (inl s))) = subst (λ l. HasFault p l k) (sym s.fault.0) (of_reduction s.place s.item k s.at s.fault.1)
  part_stands line k (inr (inr (inr (inl s)))) = of_tasks 0 (omega arith) line k s
  part_stands line k (inr (inr (inr (inr (inl s))))) = of_tasks 1 (omega arith) line k s
  part_stands line k (inr (inr (inr (inr (inr s))))) = subst (λ l. HasFault p l k) (sym s.fault.0) (of_keep s.place s.item k s.at s.fault.1)

  -- a fault of one of the two lists
  in_lists : (list : ℕ) → list < 2 → (line : ℕ) (k : FaultKind) → OfTasks p list line k → OfLines p line k
  in_lists zero two line k s = inr (inr (inr (inl s)))
  in_lists (suc zero) two line k s = inr (inr (inr (inr (inl s))))
  in_lists (suc (suc n)) two line k s = absurd (omega (arith, two))

  pub part_of : (line : ℕ) (k : FaultKind) → HasFault p line k → OfLines p line k
  part_of _ _ (of_steps above) = inl (inl (inl (refl, (refl, above))))
  part_of _ _ (of_dump above) = inl (inl (inr (inl (refl, (refl, above)))))
  part_of _ _ (of_ghost above) = inl (inl (inr (inr (inl (refl, (refl, above))))))
  part_of _ _ (of_materials above) = inl (inl (inr (inr (inr (refl, (refl, above))))))
  part_of _ _ (of_level level l k at fault) = inl (inr (record { place = level; item = l; at = at; fault = (refl, fault) }))
  part_of _ _ (of_variable place v k at fault) = inr (inl (record { place = place; item = v; at = at; fault = (refl, fault) }))
  part_of _ _ (of_reduction place q k at fault) = inr (inr (inl (record { place = place; item = q; at = at; fault = (refl, fault) })))
  part_of _ _ (of_task list place t k there fault) = in_lists list there.of_two _ k (record { place = place; item = t; at = there.stands; fault = inl (refl, fault) })
  part_of _ _ (of_require list place t at_line r k there fault) = in_lists list there.task.of_two _ k
      (record { place = place; item = t; at = there.task.stands; fault = inr (inl (record { place = at_line; item = r; at = there.stands; fault = (refl, fault) })) })
  part_of _ _ (of_write list place t at_line w k there fault) = in_lists list there.task.of_two _ k
      (record { place = place; item = t; at = there.task.stands; fault = inr (inr (record { place = at_line; item = w; at = there.stands; fault = (refl, fault) })) })
  part_of _ _ (of_keep place keep k at fault) = inr (inr (inr (inr (inr (record { place = place; item = keep; at = at; fault = (refl, fault) })))))

  -- the first of the parts is the first of the problem
  pub whole_first : (r : Option Fault) → IsFirst (OfLines p) r → IsFirst (HasFault p) r
  whole_first None h = λ line k s. h line k (part_of line k s)
  whole_first (Some f) h = record { is_one = part_stands f.line f.kind h.is_one; none_before = λ line k s. h.none_before line k (part_of line k s) }

  -- without a fault in the grid, ghost layers are few
  pub few_where_none : IsFirst (OfGrid p) None → p.ghost_limit.value ≤ 8
  few_where_none none = not_above _ 8 (λ above. none p.ghost_limit.line (kind.TooLarge limit.Ghost) (inl (inr (inr (inl (refl, (refl, above)))))))
