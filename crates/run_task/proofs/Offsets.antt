-- A kernel that runs at what a patch owns reads, at an allowed offset, in the window around the patch.
use Rattle.std.proofs.Common.{◌≡◌, ℕ, ℤ, pos, negsuc, ◌+◌, ◌/◌, ◌%◌, ◌<◌, ◌≤◌, ◌+ℤ◌, ◌<ℤ◌, ◌⊎◌, inl, inr, Bool, true, false, List, refl, sym, ap, subst, arith}
use Rattle.std.specs.Prelude.{◌==◌, ◌&&◌, if◌then◌else◌, slice_index, slice_index_or}
use Rattle.std.specs.Int.{int_div_euclid}
use Rattle.std.proofs.lemmas.Int.{ints}
use Rattle.uts_geom.specs.Centrings.{is_point_like}
use Rattle.uts_geom.specs.Spans.{is_between, is_inside}
use Rattle.uts_geom.specs.declared.centring.Axis.{Axis}
use Rattle.uts_geom.specs.declared.centring.Axis.TheVariants.{X, Y, Z}
use Rattle.uts_geom.specs.declared.centring.Centring.{Centring}
use Rattle.uts_geom.specs.declared.index.Index.{Index}
use Rattle.uts_geom.specs.declared.span.Span.{Span}
use Rattle.problem_types.specs.Levels.{IsProper, cells_of}
use Rattle.problem_types.specs.Regions.{coarse_index, end_of, moved, offset_of}
use Rattle.problem_types.specs.declared.problem.Ghost.{Ghost}
use Rattle.problem_types.specs.declared.problem.GhostKind.{GhostKind}
use Rattle.problem_types.specs.declared.problem.GhostKind.TheVariants as kind
use Rattle.problem_types.specs.declared.problem.Level.{Level}
use Rattle.grid_levels.specs.Good.{HasMultiples, divided}
use Rattle.patch_regions.specs.Regions.{box_of, owned_span, patch_at}
use Rattle.ghost_rules.specs.Laws.{OffsetsFitWindows}
use Rattle.ghost_rules.specs.Windows.{along, is_allowed_along, is_offset_allowed, layers_along, seen_along, window_begin, window_end, window_of}
use Rattle.ghost_rules.specs.declared.along.Along.{Along}
use Rattle.ghost_rules.specs.declared.along.Along.TheVariants.{Nothing, Points, Own}
use Rattle.ghost_rules.specs.declared.seen.Seen.{Seen}
use Rattle.ghost_rules.specs.declared.seen.Seen.TheVariants as seen

-- ---- spans, axis by axis

pub all_true : (a b c : Bool) → a ≡ true → b ≡ true → c ≡ true → (a && (b && c)) ≡ true
all_true a b c x y z = rw (x, y, z) refl

pub each_true : (a b c : Bool) → (a && (b && c)) ≡ true → (a ≡ true) × (b ≡ true) × (c ≡ true)
each_true true true true all = (refl, refl, refl)
each_true true true false all = absurd (cc)
each_true true false c all = absurd (cc)
each_true false b c all = absurd (cc)

-- an index lies in a span, on each axis
pub record LiesOnAxes (s : Span) (i : Index) : Type 0 where
  pub x : is_between s.lo.x s.hi.x i.x ≡ true
  pub y : is_between s.lo.y s.hi.y i.y ≡ true
  pub z : is_between s.lo.z s.hi.z i.z ≡ true

pub inside_on_axes : (s : Span) (i : Index) → LiesOnAxes s i → is_inside s i ≡ true
inside_on_axes s i on =
    all_true (is_between s.lo.x s.hi.x i.x) (is_between s.lo.y s.hi.y i.y) (is_between s.lo.z s.hi.z i.z) on.x on.y on.z

pub axes_of_inside : (s : Span) (i : Index) → is_inside s i ≡ true → LiesOnAxes s i
axes_of_inside s i inside =
    let parts = each_true (is_between s.lo.x s.hi.x i.x) (is_between s.lo.y s.hi.y i.y) (is_between s.lo.z s.hi.z i.z) inside in
    record { x = parts.0; y = parts.1; z = parts.2 }

-- an offset is allowed, on each axis
record AllowedOnAxes (s : Seen) (variable kernel : Centring) (by : List ℤ) : Type 0 where
  x : is_allowed_along (seen_along s X) (is_point_like variable X) (is_point_like kernel X) (slice_index_or by 0 (pos 0)) ≡ true
  y : is_allowed_along (seen_along s Y) (is_point_like variable Y) (is_point_like kernel Y) (slice_index_or by 1 (pos 0)) ≡ true
  z : is_allowed_along (seen_along s Z) (is_point_like variable Z) (is_point_like kernel Z) (slice_index_or by 2 (pos 0)) ≡ true

allowed_on_axes : (s : Seen) (variable kernel : Centring) (by : List ℤ) → is_offset_allowed s variable kernel by ≡ true → AllowedOnAxes s variable kernel by
allowed_on_axes s variable kernel by allowed =
    let parts = each_true (is_allowed_along (seen_along s X) (is_point_like variable X) (is_point_like kernel X) (slice_index_or by 0 (pos 0)))
    (is_allowed_along (seen_along s Y) (is_point_like variable Y) (is_point_like kernel Y) (slice_index_or by 1 (pos 0)))
    (is_allowed_along (seen_along s Z) (is_point_like variable Z) (is_point_like kernel Z) (slice_index_or by 2 (pos 0))) allowed in
    record { x = parts.0; y = parts.1; z = parts.2 }

-- ---- along one axis

-- a high bound besides
reached : (reaches : Bool) (high : ℕ) → pos high +ℤ (if reaches then pos 1 else pos 0) ≡ end_of reaches high
reached true high = refl
reached false high = ap (λ (n : ℕ). pos n) (let e : high + 0 ≡ high = omega arith in e)

above_zero : (low : ℕ) → pos low +ℤ pos 0 ≡ pos low
above_zero low = ap (λ (n : ℕ). pos n) (let e : low + 0 ≡ low = omega arith in e)

-- layers end alike at each patch, the last of its box or not
nothing_ends : (point last : Bool) → window_end Nothing point last ≡ window_end Nothing point false
nothing_ends true last = refl
nothing_ends false last = refl

points_end : (n : ℕ) (point last : Bool) → window_end (Points n) point last ≡ window_end (Points n) point false
points_end n true last = refl
points_end n false last = refl

layers_end : (k : GhostKind) (n : ℕ) (axis : Axis) (point last : Bool) →
    window_end (layers_along k n axis) point last ≡ window_end (layers_along k n axis) point false
layers_end kind.None n axis point last = nothing_ends point last
layers_end kind.Cells n axis point last = refl
layers_end kind.Nodes n axis point last = points_end n point last
layers_end kind.FaceX n X point last = points_end n point last
layers_end kind.FaceX n Y point last = refl
layers_end kind.FaceX n Z point last = refl
layers_end kind.FaceY n X point last = refl
layers_end kind.FaceY n Y point last = points_end n point last
layers_end kind.FaceY n Z point last = refl
layers_end kind.FaceZ n X point last = refl
layers_end kind.FaceZ n Y point last = refl
layers_end kind.FaceZ n Z point last = points_end n point last

module _ (fit : OffsetsFitWindows) (variable kernel last : Bool) (low high : ℕ) (some : low < high) (n : ℤ)
    (runs : is_between (pos low) (end_of (kernel && last) high) n ≡ true) where
  in_window : (a : Along) (by : ℤ) → is_allowed_along a variable kernel by ≡ true →
      is_between (pos low +ℤ window_begin a variable) (pos high +ℤ window_end a variable last) (n +ℤ by) ≡ true
  in_window a by allowed =
      let proper : pos low <ℤ pos high = omega (arith, ints) in
      (fit a variable kernel by).0 allowed (pos low) (pos high) n last proper
      (subst (λ (top : ℤ). is_between (pos low) top n ≡ true) (sym (reached (kernel && last) high)) runs)

  pub among_layers : (g : Ghost) (axis : Axis) (by : ℤ) → is_allowed_along (along g axis) variable kernel by ≡ true →
      is_between (pos low +ℤ window_begin (along g axis) variable) (pos high +ℤ window_end (along g axis) variable false) (n +ℤ by) ≡ true
  among_layers g axis by allowed =
      subst (λ (end : ℤ). is_between (pos low +ℤ window_begin (along g axis) variable) (pos high +ℤ end) (n +ℤ by) ≡ true)
      (layers_end g.kind g.n axis variable last) (in_window (along g axis) by allowed)

  pub among_own : (by : ℤ) → is_allowed_along Own variable kernel by ≡ true → is_between (pos low) (end_of (variable && last) high) (n +ℤ by) ≡ true
  among_own by allowed =
      subst (λ (bottom : ℤ). is_between bottom (end_of (variable && last) high) (n +ℤ by) ≡ true) (above_zero low)
      (subst (λ (top : ℤ). is_between (pos low +ℤ pos 0) top (n +ℤ by) ≡ true) (reached (variable && last) high) (in_window Own by allowed))

-- ---- around a patch

module _ (l : Level) (patch : ℕ) where
  -- the patch is the last of its box on the axis
  abbrev pub is_last : (axis : ℕ) → Bool
  is_last axis = slice_index (patch_at l patch).hi axis == slice_index (box_of l.boxes (patch_at l patch)).hi axis

  module _ (fit : OffsetsFitWindows) (proper : IsProper (patch_at l patch)) (kernel : Centring) (i : Index)
      (owned : is_inside (owned_span kernel l patch) i ≡ true) (variable : Centring) (by : List ℤ) where
    on_axes : LiesOnAxes (owned_span kernel l patch) i
    on_axes = axes_of_inside (owned_span kernel l patch) i owned

    pub reads_among_layers : (g : Ghost) → is_offset_allowed (seen.Ghosted g) variable kernel by ≡ true →
        is_inside (window_of g variable (cells_of (patch_at l patch))) (moved i (offset_of by)) ≡ true
    reads_among_layers g allowed =
        let q = patch_at l patch in
        let each = allowed_on_axes (seen.Ghosted g) variable kernel by allowed in
        inside_on_axes (window_of g variable (cells_of q)) (moved i (offset_of by)) (record {
          x = among_layers fit (is_point_like variable X) (is_point_like kernel X) (is_last 0) (slice_index q.lo 0) (slice_index q.hi 0)
              (proper 0 (omega arith)) i.x on_axes.x g X (slice_index_or by 0 (pos 0)) each.x;
          y = among_layers fit (is_point_like variable Y) (is_point_like kernel Y) (is_last 1) (slice_index q.lo 1) (slice_index q.hi 1)
              (proper 1 (omega arith)) i.y on_axes.y g Y (slice_index_or by 1 (pos 0)) each.y;
          z = among_layers fit (is_point_like variable Z) (is_point_like kernel Z) (is_last 2) (slice_index q.lo 2) (slice_index q.hi 2)
              (proper 2 (omega arith)) i.z on_axes.z g Z (slice_index_or by 2 (pos 0)) each.z;
        })

    pub reads_among_own : is_offset_allowed seen.Own variable kernel by ≡ true → is_inside (owned_span variable l patch) (moved i (offset_of by)) ≡ true
    reads_among_own allowed =
        let q = patch_at l patch in
        let each = allowed_on_axes seen.Own variable kernel by allowed in
        inside_on_axes (owned_span variable l patch) (moved i (offset_of by)) (record {
          x = among_own fit (is_point_like variable X) (is_point_like kernel X) (is_last 0) (slice_index q.lo 0) (slice_index q.hi 0)
              (proper 0 (omega arith)) i.x on_axes.x (slice_index_or by 0 (pos 0)) each.x;
          y = among_own fit (is_point_like variable Y) (is_point_like kernel Y) (is_last 1) (slice_index q.lo 1) (slice_index q.hi 1)
              (proper 1 (omega arith)) i.y on_axes.y (slice_index_or by 1 (pos 0)) each.y;
          z = among_own fit (is_point_like variable Z) (is_point_like kernel Z) (is_last 2) (slice_index q.lo 2) (slice_index q.hi 2)
              (proper 2 (omega arith)) i.z on_axes.z (slice_index_or by 2 (pos 0)) each.z;
        })

-- ---- on the next coarser level

pub bounds_of : (low high a : ℕ) → is_between (pos low) (pos high) (pos a) ≡ true → (low ≤ a) × (a < high)
bounds_of low high a between = (grind (arith, ints), grind (arith, ints))

pub between : (low high a : ℕ) → low ≤ a → a < high → is_between (pos low) (pos high) (pos a) ≡ true
between low high a above below = grind (arith, ints)

half_between : (low high a : ℕ) (reaches : Bool) → low % 2 ≡ 0 → high % 2 ≡ 0 →
    is_between (pos low) (end_of reaches high) (pos a) ≡ true → is_between (pos (low / 2)) (end_of reaches (high / 2)) (pos (a / 2)) ≡ true
half_between low high a true even even_high runs =
    let at = bounds_of low (high + 1) a runs in
    between (low / 2) (high / 2 + 1) (a / 2) (omega (arith, at.0)) (omega (arith, at.1))
half_between low high a false even even_high runs =
    let at = bounds_of low high a runs in
    between (low / 2) (high / 2) (a / 2) (omega (arith, at.0)) (omega (arith, at.1))

quarter_between : (low high a : ℕ) (reaches : Bool) → low % 4 ≡ 0 → high % 4 ≡ 0 →
    is_between (pos low) (end_of reaches high) (pos a) ≡ true → is_between (pos (low / 4)) (end_of reaches (high / 4)) (pos (a / 4)) ≡ true
quarter_between low high a true even even_high runs =
    let at = bounds_of low (high + 1) a runs in
    between (low / 4) (high / 4 + 1) (a / 4) (omega (arith, at.0)) (omega (arith, at.1))
quarter_between low high a false even even_high runs =
    let at = bounds_of low high a runs in
    between (low / 4) (high / 4) (a / 4) (omega (arith, at.0)) (omega (arith, at.1))

-- what lies between multiples of the ratio, divided by it
divided_between : (ratio low high : ℕ) (reaches : Bool) (n : ℤ) → (ratio ≡ 2) ⊎ (ratio ≡ 4) → (low % ratio ≡ 0) × (high % ratio ≡ 0) →
    is_between (pos low) (end_of reaches high) n ≡ true → is_between (pos (low / ratio)) (end_of reaches (high / ratio)) (int_div_euclid n (pos ratio)) ≡ true
divided_between ratio low high reaches (negsuc a) is multiples runs = absurd (cc)
divided_between ratio low high reaches (pos a) (inl two) multiples runs =
    let low_is : low % 2 ≡ 0 = rw two at multiples.0 in
    let high_is : high % 2 ≡ 0 = rw two at multiples.1 in
    rw two (half_between low high a reaches low_is high_is runs)
divided_between ratio low high reaches (pos a) (inr four) multiples runs =
    let low_is : low % 4 ≡ 0 = rw four at multiples.0 in
    let high_is : high % 4 ≡ 0 = rw four at multiples.1 in
    rw four (quarter_between low high a reaches low_is high_is runs)

half_below : (low high : ℕ) → low % 2 ≡ 0 → high % 2 ≡ 0 → low < high → low / 2 < high / 2
half_below low high even even_high some = omega arith

quarter_below : (low high : ℕ) → low % 4 ≡ 0 → high % 4 ≡ 0 → low < high → low / 4 < high / 4
quarter_below low high even even_high some = omega arith

divided_below : (ratio low high : ℕ) → (ratio ≡ 2) ⊎ (ratio ≡ 4) → (low % ratio ≡ 0) × (high % ratio ≡ 0) → low < high → low / ratio < high / ratio
divided_below ratio low high (inl two) multiples some =
    let low_is : low % 2 ≡ 0 = rw two at multiples.0 in
    let high_is : high % 2 ≡ 0 = rw two at multiples.1 in
    rw two (half_below low high low_is high_is some)
divided_below ratio low high (inr four) multiples some =
    let low_is : low % 4 ≡ 0 = rw four at multiples.0 in
    let high_is : high % 4 ≡ 0 = rw four at multiples.1 in
    rw four (quarter_below low high low_is high_is some)

module _ (fit : OffsetsFitWindows) (l : Level) (patch : ℕ) (proper : IsProper (patch_at l patch)) (ratio : ℕ) (is : (ratio ≡ 2) ⊎ (ratio ≡ 4))
    (multiples : HasMultiples ratio (patch_at l patch)) (kernel : Centring) (i : Index) (owned : is_inside (owned_span kernel l patch) i ≡ true)
    (variable : Centring) (by : List ℤ) where
  abbrev low_at : ℕ → ℕ
  low_at axis = slice_index (patch_at l patch).lo axis

  abbrev high_at : ℕ → ℕ
  high_at axis = slice_index (patch_at l patch).hi axis

  on_coarse_axis : (axis : ℕ) → axis < 3 → (point point_kernel : Bool) (n : ℤ) → is_between (pos (low_at axis)) (end_of (point_kernel && is_last l patch axis) (high_at axis)) n ≡ true
      → (g : Ghost) (along_axis : Axis) (off : ℤ) → is_allowed_along (along g along_axis) point point_kernel off ≡ true
      → is_between (pos (low_at axis / ratio) +ℤ window_begin (along g along_axis) point) (pos (high_at axis / ratio) +ℤ window_end (along g along_axis) point false)
      (int_div_euclid n (pos ratio) +ℤ off) ≡ true
  on_coarse_axis axis below point point_kernel n runs g along_axis off allowed =
      among_layers fit point point_kernel (is_last l patch axis) (low_at axis / ratio) (high_at axis / ratio)
      (divided_below ratio (low_at axis) (high_at axis) is (multiples axis below) (proper axis below)) (int_div_euclid n (pos ratio))
      (divided_between ratio (low_at axis) (high_at axis) (point_kernel && is_last l patch axis) n is (multiples axis below) runs) g along_axis off allowed

  pub reads_among_coarse : (g : Ghost) → is_offset_allowed (seen.Ghosted g) variable kernel by ≡ true →
      is_inside (window_of g variable (divided ratio (cells_of (patch_at l patch)))) (moved (coarse_index ratio i) (offset_of by)) ≡ true
  reads_among_coarse g allowed =
      let on_axes = axes_of_inside (owned_span kernel l patch) i owned in
      let each = allowed_on_axes (seen.Ghosted g) variable kernel by allowed in
      inside_on_axes (window_of g variable (divided ratio (cells_of (patch_at l patch)))) (moved (coarse_index ratio i) (offset_of by)) (record {
        x = on_coarse_axis 0 (omega arith) (is_point_like variable X) (is_point_like kernel X) i.x on_axes.x g X (slice_index_or by 0 (pos 0)) each.x;
        y = on_coarse_axis 1 (omega arith) (is_point_like variable Y) (is_point_like kernel Y) i.y on_axes.y g Y (slice_index_or by 1 (pos 0)) each.y;
        z = on_coarse_axis 2 (omega arith) (is_point_like variable Z) (is_point_like kernel Z) i.z on_axes.z g Z (slice_index_or by 2 (pos 0)) each.z;
      })
