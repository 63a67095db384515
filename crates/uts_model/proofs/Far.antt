-- Indexes that lie on no level.
use Rattle.std.proofs.Common.{◌≡◌, ◌∙◌, ap, sym, refl, ℕ, ℤ, inl, inr, Bool, true, false}
use Rattle.uts_geom.specs.Spans.{index, IsNear}
use Rattle.uts_geom.specs.declared.centring.Centring.{Centring}
use Rattle.uts_geom.specs.declared.index.Index.{Index}
use Rattle.problem_types.specs.Lists.{centring_of}
use Rattle.problem_types.specs.Regions.{is_in_space}
use Rattle.problem_types.specs.declared.problem.Problem.{Problem}
use Rattle.uts_model.specs.Grids.{AreBoundedLevels, IsSameOrFarNumber, IsSameOrFar}
use Rattle.uts_model.specs.Moments.{state_of}
use Rattle.uts_model.specs.declared.moments.Moment.{Moment}
use Rattle.uts_model.specs.declared.moments.Moment.TheVariants.{BeforeSteps, InStep}
use Rattle.uts_model.proofs.LevelSpaces.{inside_near}
use Rattle.uts_model.proofs.States.{field_before, field_outside}

-- an index by its coordinates, each the same or far
pub same_or_far : (a b c x y z : ℤ) → IsSameOrFarNumber a x → IsSameOrFarNumber b y → IsSameOrFarNumber c z →
    IsSameOrFar (index a b c) (index x y z)
same_or_far a b c x y z (inr far) on_y on_z = inr ((λ near. far.0 near.x), (λ near. far.1 near.x))
same_or_far a b c x y z (inl same_x) (inr far) on_z = inr ((λ near. far.0 near.y), (λ near. far.1 near.y))
same_or_far a b c x y z (inl same_x) (inl same_y) (inr far) = inr ((λ near. far.0 near.z), (λ near. far.1 near.z))
same_or_far a b c x y z (inl same_x) (inl same_y) (inl same_z) =
    inl (ap (λ (n : ℤ). index n b c) same_x ∙ ap (λ (n : ℤ). index x n c) same_y ∙ ap (λ (n : ℤ). index x y n) same_z)

module _ (p : Problem) (bounded : AreBoundedLevels p) where
  far_outside : (level : ℕ) (c : Centring) (i : Index) → (IsNear i → ⊥) → is_in_space p level c i ≡ false
  far_outside level c i far = by_test (is_in_space p level c i) refl
    where
      by_test : (b : Bool) → is_in_space p level c i ≡ b → is_in_space p level c i ≡ false
      by_test true inside = absurd (far (inside_near p level c i bounded inside))
      by_test false beside = beside

  -- a variable has one number at both
  pub field_alike : (moment : Moment) (name material level : ℕ) (i j : Index) → IsSameOrFar i j →
      (state_of p moment).field name material level i ≡ (state_of p moment).field name material level j
  field_alike moment name material level i j (inl same) = ap ((state_of p moment).field name material level) same
  field_alike BeforeSteps name material level i j (inr far) = field_before p name material level i ∙ sym (field_before p name material level j)
  field_alike (InStep step tasks) name material level i j (inr far) =
      field_outside p step name material level i (far_outside level (centring_of p name) i far.0) tasks
      ∙ sym (field_outside p step name material level j (far_outside level (centring_of p name) j far.1) tasks)
