-- What patches own on levels within the limits of the grid: coordinates from 0 to 4,097.
use Rattle.std.proofs.Common.{arith}
use Rattle.std.specs.Prelude.{◌≡◌, ℕ, ◌<◌, [], length, Bool}
use Rattle.uts_geom.specs.Spans.{IsNearSpan}
use Rattle.uts_geom.specs.declared.centring.Centring.{Centring}
use Rattle.problem_types.specs.Levels.{HasNearBounds, KeepsGridLimits}
use Rattle.problem_types.specs.NearSpaces.{IsOnGridSpan, bounds_on_grid, near_span}
use Rattle.problem_types.specs.declared.problem.BoxLine.{BoxLine}
use Rattle.problem_types.specs.declared.problem.Level.{Level}
use Rattle.patch_regions.specs.Laws.{AreBoxesApart}
use Rattle.patch_regions.specs.Regions.{owned_span, patch_at, reaching}

pub near_patch : (l : Level) (patch : ℕ) → KeepsGridLimits l → patch < length l.patches → HasNearBounds (patch_at l patch)
near_patch l patch limits below = limits.patches patch (record { line = 0; lo = []; hi = [] }) below

pub reaching_on_grid : (b : BoxLine) (x y z : Bool) → HasNearBounds b → IsOnGridSpan (reaching b x y z)
reaching_on_grid b x y z near = bounds_on_grid b x y z near

pub owned_on_grid : (c : Centring) (l : Level) (patch : ℕ) → KeepsGridLimits l → patch < length l.patches → IsOnGridSpan (owned_span c l patch)
owned_on_grid c l patch limits below = reaching_on_grid (patch_at l patch) _ _ _ (near_patch l patch limits below)

pub owned_near : (c : Centring) (l : Level) (patch : ℕ) → KeepsGridLimits l → patch < length l.patches → IsNearSpan (owned_span c l patch)
owned_near c l patch limits below = near_span (owned_span c l patch) (owned_on_grid c l patch limits below)

-- the box of a level of one box is apart from each other one
pub one_box_apart : (c : Centring) (l : Level) → length l.boxes ≡ 1 → AreBoxesApart c l
one_box_apart c l one = λ i j d before below. absurd (omega (arith, one))
