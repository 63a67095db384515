-- Where the numbers of a variable stand on an axis.
use Rattle.std.specs.Prelude.{Bool, true, false}
use Rattle.uts_geom.specs.declared.centring.Axis.{Axis}
use Rattle.uts_geom.specs.declared.centring.Axis.TheVariants.{X, Y, Z}
use Rattle.uts_geom.specs.declared.centring.Centring.{Centring}
use Rattle.uts_geom.specs.declared.centring.Centring.TheVariants.{Cell, Node, FaceX, FaceY, FaceZ}

-- A centring is point-like or interval-like on an axis: nodes are point-like on each, faces on the axis that they lie across.
abbrev pub is_point_like : Centring → Axis → Bool
is_point_like Cell axis = false
is_point_like Node axis = true
is_point_like FaceX X = true
is_point_like FaceX Y = false
is_point_like FaceX Z = false
is_point_like FaceY X = false
is_point_like FaceY Y = true
is_point_like FaceY Z = false
is_point_like FaceZ X = false
is_point_like FaceZ Y = false
is_point_like FaceZ Z = true
