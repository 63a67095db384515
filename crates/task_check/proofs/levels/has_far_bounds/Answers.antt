use Rattle.std.proofs.Common.{◌≡◌, ◌∙◌, inl, inr, sym, subst, false, true, Any}
use Rattle.problem_types.specs.Levels.{HasNearBounds}
use Rattle.task_check.proofs.FarBounds.{any_of_both, any_of_later}
use Rattle.task_check.proofs.levels.has_far_bounds.Goals as goal

pub returns-else-are_far : goal.returns-else-are_far
returns-else-are_far c = (
  λ yes. any_of_later (λ b. HasNearBounds b → ⊥) c.args.l.now.boxes c.args.l.now.patches
      (subst (Any (λ b. HasNearBounds b → ⊥)) c.as_slice-else-are_far.ensures (c.are_far-else-are_far.ensures.0 yes)),
  λ any. elim (any_of_both (λ b. HasNearBounds b → ⊥) c.args.l.now.boxes c.args.l.now.patches any) [
    | inl boxes ↦ let e : false ≡ true = sym c.if-are_far.false ∙ c.are_far.ensures.1 (subst (Any (λ b. HasNearBounds b → ⊥)) (sym c.as_slice.ensures) boxes) in absurd cc
    | inr patches ↦ c.are_far-else-are_far.ensures.1 (subst (Any (λ b. HasNearBounds b → ⊥)) (sym c.as_slice-else-are_far.ensures) patches)
  ],
)
