-- Ghost windows, and the offsets at which a kernel may read in them, axis by axis.
use Rattle.std.specs.Prelude.{ℕ, ℤ, pos, neg_ℤ, ◌+◌, ◌≤◌, ◌+ℤ◌, ◌-ℤ◌, Bool, true, false, ◌&&◌, List, if◌then◌else◌, slice_index_or}
use Rattle.uts_geom.specs.Centrings.{is_point_like}
use Rattle.uts_geom.specs.Spans.{index, is_between}
use Rattle.uts_geom.specs.declared.centring.Axis.{Axis}
use Rattle.uts_geom.specs.declared.centring.Axis.TheVariants.{X, Y, Z}
use Rattle.uts_geom.specs.declared.centring.Centring.{Centring}
use Rattle.uts_geom.specs.declared.span.Span.{Span}
use Rattle.problem_types.specs.declared.problem.Ghost.{Ghost}
use Rattle.problem_types.specs.declared.problem.GhostKind.{GhostKind}
use Rattle.problem_types.specs.declared.problem.GhostKind.TheVariants as kind
use Rattle.ghost_rules.specs.declared.along.Along.{Along}
use Rattle.ghost_rules.specs.declared.along.Along.TheVariants.{Nothing, Intervals, Points, Own}
use Rattle.ghost_rules.specs.declared.seen.Seen.{Seen}
use Rattle.ghost_rules.specs.declared.seen.Seen.TheVariants as seen

-- what so many layers lie around on an axis: nodes are points on each axis, faces on the axis that they lie across
abbrev pub layers_along : GhostKind → ℕ → Axis → Along
layers_along kind.None n axis = Nothing
layers_along kind.Cells n axis = Intervals n
layers_along kind.Nodes n axis = Points n
layers_along kind.FaceX n X = Points n
layers_along kind.FaceX n Y = Intervals n
layers_along kind.FaceX n Z = Intervals n
layers_along kind.FaceY n X = Intervals n
layers_along kind.FaceY n Y = Points n
layers_along kind.FaceY n Z = Intervals n
layers_along kind.FaceZ n X = Intervals n
layers_along kind.FaceZ n Y = Intervals n
layers_along kind.FaceZ n Z = Points n

abbrev pub along : Ghost → Axis → Along
along layers axis = layers_along layers.kind layers.n axis

-- Where the window of a patch begins on an axis, above the patch's low bound. The variable is point-like there, or interval-like.
abbrev pub window_begin : Along → Bool → ℤ
window_begin Nothing point = pos 0
window_begin (Intervals n) false = neg_ℤ (pos n)
window_begin (Intervals n) true = pos 1 -ℤ pos n
window_begin (Points n) point = neg_ℤ (pos n)
window_begin Own point = pos 0

-- where it ends, above the patch's high bound; a patch that is the last of its box on the axis owns a point there
abbrev pub window_end : Along → (point last : Bool) → ℤ
window_end Nothing false last = pos 0
window_end Nothing true last = pos 1
window_end (Intervals n) point last = pos n
window_end (Points n) false last = pos n
window_end (Points n) true last = pos (n + 1)
window_end Own point last = if point && last then pos 1 else pos 0

-- there are at most 8 layers
abbrev pub AreFew : Along → Type 0
AreFew Nothing = Unit {0}
AreFew (Intervals n) = n ≤ 8
AreFew (Points n) = n ≤ 8
AreFew Own = Unit {0}

-- the window of a patch, around which so many layers lie
abbrev pub window_of : Ghost → Centring → Span → Span
window_of layers c patch = record {
  lo = index (patch.lo.x +ℤ window_begin (along layers X) (is_point_like c X)) (patch.lo.y +ℤ window_begin (along layers Y) (is_point_like c Y))
      (patch.lo.z +ℤ window_begin (along layers Z) (is_point_like c Z));
  hi = index (patch.hi.x +ℤ window_end (along layers X) (is_point_like c X) false) (patch.hi.y +ℤ window_end (along layers Y) (is_point_like c Y) false)
      (patch.hi.z +ℤ window_end (along layers Z) (is_point_like c Z) false);
}

-- the least offset at which a kernel may read on an axis where the variable is point-like or interval-like
abbrev pub offset_begin : Along → Bool → ℤ
offset_begin Nothing variable = pos 0
offset_begin (Intervals n) false = neg_ℤ (pos n)
offset_begin (Intervals n) true = pos 1 -ℤ pos n
offset_begin (Points n) variable = neg_ℤ (pos n)
offset_begin Own variable = pos 0

-- the first offset beyond those at which it may, by the variable and the kernel
abbrev pub offset_end : Along → (variable kernel : Bool) → ℤ
offset_end Nothing false false = pos 1
offset_end Nothing false true = pos 0
offset_end Nothing true false = pos 2
offset_end Nothing true true = pos 1
offset_end (Intervals n) variable false = pos (n + 1)
offset_end (Intervals n) variable true = pos n
offset_end (Points n) false false = pos (n + 1)
offset_end (Points n) false true = pos n
offset_end (Points n) true false = pos (n + 2)
offset_end (Points n) true true = pos (n + 1)
offset_end Own false false = pos 1
offset_end Own false true = pos 0
offset_end Own true kernel = pos 1

-- a kernel may read at the offset on an axis
abbrev pub is_allowed_along : Along → (variable kernel : Bool) → ℤ → Bool
is_allowed_along a variable kernel by = is_between (offset_begin a variable) (offset_end a variable kernel) by

-- what is seen on an axis: the layers around the patch, or what the patch owns
abbrev pub seen_along : Seen → Axis → Along
seen_along (seen.Ghosted layers) axis = along layers axis
seen_along seen.Own axis = Own

-- a kernel of one centring may read a variable of another at the offset, by its numbers for x, y and z
abbrev pub is_offset_allowed : Seen → (variable kernel : Centring) → List ℤ → Bool
is_offset_allowed s variable kernel offset =
    is_allowed_along (seen_along s X) (is_point_like variable X) (is_point_like kernel X) (slice_index_or offset 0 (pos 0))
    && (is_allowed_along (seen_along s Y) (is_point_like variable Y) (is_point_like kernel Y) (slice_index_or offset 1 (pos 0))
    && is_allowed_along (seen_along s Z) (is_point_like variable Z) (is_point_like kernel Z) (slice_index_or offset 2 (pos 0)))

abbrev pub AreFewSeen : Seen → Type 0
AreFewSeen (seen.Ghosted layers) = layers.n ≤ 8
AreFewSeen seen.Own = Unit {0}
