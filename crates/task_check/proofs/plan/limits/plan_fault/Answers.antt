use Rattle.std.proofs.Common.{◌≡◌, ◌⊎◌, inl, inr, ℕ, ◌+◌, ◌<◌, ◌≤◌, arith, true, false, subst, sym, ◌∙◌}
use Rattle.std.proofs.lemmas.Bool.{cases_lt}
use Rattle.task_check.specs.declared.fault.Which.{Which}
use Rattle.task_check.specs.Counts.{IsPlanTooLarge}
use Rattle.task_check.specs.First.{limit_rank}
use Rattle.task_check.proofs.Ranks.{same_limit, limit_below}
use Rattle.task_check.proofs.PlanLimits.{no_line_limit}
use Rattle.task_check.proofs.plan.limits.plan_fault.Goals as goal

pub loop-place-init : goal.loop-place-init
loop-place-init c w low above = no_line_limit c.args.p.now w (omega (arith, low)) above

pub returns-then-is_plan_too_large : goal.returns-then-is_plan_too_large
returns-then-is_plan_too_large c = (c.is_plan_too_large.ensures.0 c.if-is_plan_too_large.true, λ w above. by_order w above (cases_lt (limit_rank w) (12 + c.loop-place.place))) where
  by_order : (w : Which) → IsPlanTooLarge c.args.p.now w → (limit_rank w < 12 + c.loop-place.place) ⊎ (12 + c.loop-place.place ≤ limit_rank w)
      → limit_rank c.limit_at-which.result ≤ limit_rank w
  by_order w above (inl low) = absurd (c.loop-place.invariant w low above)
  by_order w above (inr high) = omega (arith, high, c.limit_at-which.ensures)

-- none up to this limit, where none is below it and not this one
one_more : (P : Which → Type 0) (i : ℕ) (last : Which) → limit_rank last ≡ i → ((w : Which) → limit_rank w < i → P w → ⊥) → (P last → ⊥)
    → (w : Which) → limit_rank w < i + 1 → P w → ⊥
one_more P i last last_is before here w below = by_place (cases_lt (limit_rank w) i) where
  by_place : (limit_rank w < i) ⊎ (i ≤ limit_rank w) → P w → ⊥
  by_place (inl low) = before w low
  by_place (inr high) =
      let same : limit_rank last ≡ limit_rank w = omega (arith, below, last_is, high) in
      subst (λ v. P v → ⊥) (same_limit last w same) here

pub loop-place-preserved : goal.loop-place-preserved
loop-place-preserved c w low = one_more (IsPlanTooLarge c.args.p.now) (12 + c.loop-place.place) c.limit_at-which.result c.limit_at-which.ensures c.loop-place.invariant
    (λ above. let e : false ≡ true = sym c.if-is_plan_too_large.false ∙ c.is_plan_too_large.ensures.1 above in absurd cc) w (omega (arith, low))

pub returns : goal.returns
returns c w above = c.loop-place.invariant w (omega (arith, limit_below w, c.loop-place-test.false)) above
