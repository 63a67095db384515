-- Layers of which there are few have few along each axis.
use Rattle.std.specs.Prelude.{◌≤◌, ℕ}
use Rattle.uts_geom.specs.declared.centring.Axis.{Axis}
use Rattle.uts_geom.specs.declared.centring.Axis.TheVariants.{X, Y, Z}
use Rattle.problem_types.specs.declared.problem.GhostKind.{GhostKind}
use Rattle.problem_types.specs.declared.problem.GhostKind.TheVariants as kind
use Rattle.ghost_rules.specs.Windows.{AreFew, layers_along}

pub few_along : (k : GhostKind) (n : ℕ) (axis : Axis) → n ≤ 8 → AreFew (layers_along k n axis)
few_along kind.None n axis few = tt
few_along kind.Cells n axis few = few
few_along kind.Nodes n axis few = few
few_along kind.FaceX n X few = few
few_along kind.FaceX n Y few = few
few_along kind.FaceX n Z few = few
few_along kind.FaceY n X few = few
few_along kind.FaceY n Y few = few
few_along kind.FaceY n Z few = few
few_along kind.FaceZ n X few = few
few_along kind.FaceZ n Y few = few
few_along kind.FaceZ n Z few = few
