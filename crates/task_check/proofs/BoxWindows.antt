-- The windows around the patches of a level are together the window around its box.
use Rattle.std.proofs.Common.{◌≡◌, ◌∙◌, ◌≤◌, ◌<◌, ◌-◌, ℕ, zero, suc, ℤ, pos, List, [], ◌∷◌, Bool, true, false, length, sym, refl, arith, subst}
use Rattle.std.specs.Prelude.{All, Any, IsTrue, map, slice_index, ◌||◌}
use Rattle.std.specs.List.{list_any}
use Rattle.std.proofs.lemmas.Bool.{and_from, and_parts}
use Rattle.std.proofs.lemmas.Int.{ints}
use Rattle.std.proofs.lemmas.List.{get_or_default}
use Rattle.uts_geom.specs.Spans.{index, counted, is_between, is_inside, do_meet}
use Rattle.uts_geom.specs.declared.index.Index.{Index}
use Rattle.uts_geom.specs.declared.span.Span.{Span}
use Rattle.uts_geom.specs.declared.centring.Centring.TheVariants.{Cell}
use Rattle.uts_geom.specs.Counting.{at-counted}
use Rattle.uts_geom.specs.Lists.{at_place}
use Rattle.problem_types.specs.Levels.{cells_of, IsProper, IsTiled, LiesIn}
use Rattle.problem_types.specs.Regions.{space_of}
use Rattle.problem_types.specs.declared.problem.BoxLine.{BoxLine}
use Rattle.problem_types.specs.declared.problem.Level.{Level}
use Rattle.uts_geom.specs.Laws.{SpansMeetInIndexes}
use Rattle.patch_regions.specs.Regions.{patch_at}
use Rattle.task_check.proofs.Spreads.{IsSpread}
use Rattle.task_check.proofs.Tests.{any-counted_at}

-- an index lies in a span, axis by axis
record LiesInside (s : Span) (i : Index) : Type 0 where
  x : is_between s.lo.x s.hi.x i.x ≡ true
  y : is_between s.lo.y s.hi.y i.y ≡ true
  z : is_between s.lo.z s.hi.z i.z ≡ true

axes_of : (s : Span) (i : Index) → is_inside s i ≡ true → LiesInside s i
axes_of s i inside =
    let on_x = and_parts _ _ inside in
    let on_y = and_parts _ _ on_x.1 in
    record { x = on_x.0; y = on_y.0; z = on_y.1 }

inside : (s : Span) (i : Index) → LiesInside s i → is_inside s i ≡ true
inside s i on = and_from _ _ on.x (and_from _ _ on.y on.z)

-- a proper line in another one lies between its bounds
cell_between : (low high n : ℕ) → is_between (pos low) (pos high) (pos n) ≡ true → (low ≤ n) × (n < high)
cell_between low high n within = (grind (arith, ints), grind (arith, ints))

between_cell : (low high n : ℕ) → low ≤ n → n < high → is_between (pos low) (pos high) (pos n) ≡ true
between_cell low high n from below = grind (arith, ints)

-- the bounds of a line fit on each axis
abbrev pub DoFit : (Fits : ℕ → Type 0) → BoxLine → Type 0
DoFit Fits q = (axis : ℕ) → axis < 3 → Fits (slice_index q.lo axis) × Fits (slice_index q.hi axis)

-- a line is a part of another on an axis
record IsPartAlong (outer inner : BoxLine) (axis : ℕ) : Type 0 where
  low : slice_index outer.lo axis ≤ slice_index inner.lo axis
  high : slice_index inner.hi axis ≤ slice_index outer.hi axis

part_along : (outer inner : BoxLine) (axis : ℕ) → slice_index inner.lo axis < slice_index inner.hi axis →
    is_between (pos (slice_index outer.lo axis)) (pos (slice_index outer.hi axis)) (pos (slice_index inner.lo axis)) ≡ true →
    is_between (pos (slice_index outer.lo axis)) (pos (slice_index outer.hi axis)) (pos (slice_index inner.hi axis - 1)) ≡ true →
    IsPartAlong outer inner axis
part_along outer inner axis some first last = record {
  low = (cell_between (slice_index outer.lo axis) (slice_index outer.hi axis) (slice_index inner.lo axis) first).0;
  high = omega (arith, some, (cell_between (slice_index outer.lo axis) (slice_index outer.hi axis) (slice_index inner.hi axis - 1) last).1);
}

record IsPart (outer inner : BoxLine) : Type 0 where
  x : IsPartAlong outer inner 0
  y : IsPartAlong outer inner 1
  z : IsPartAlong outer inner 2

-- a proper line whose cells lie in another one is a part of it
part_of : (outer inner : BoxLine) → IsProper inner → LiesIn (cells_of inner) (cells_of outer) → IsPart outer inner
part_of outer inner proper lies =
    let some_x = proper 0 (omega arith) in
    let some_y = proper 1 (omega arith) in
    let some_z = proper 2 (omega arith) in
    let first = (cells_of inner).lo in
    let last = index (pos (slice_index inner.hi 0 - 1)) (pos (slice_index inner.hi 1 - 1)) (pos (slice_index inner.hi 2 - 1)) in
    let low = axes_of (cells_of outer) first (lies first (inside (cells_of inner) first (record {
      x = between_cell (slice_index inner.lo 0) (slice_index inner.hi 0) (slice_index inner.lo 0) (omega arith) some_x;
      y = between_cell (slice_index inner.lo 1) (slice_index inner.hi 1) (slice_index inner.lo 1) (omega arith) some_y;
      z = between_cell (slice_index inner.lo 2) (slice_index inner.hi 2) (slice_index inner.lo 2) (omega arith) some_z;
    }))) in
    let high = axes_of (cells_of outer) last (lies last (inside (cells_of inner) last (record {
      x = between_cell (slice_index inner.lo 0) (slice_index inner.hi 0) (slice_index inner.hi 0 - 1) (omega (arith, some_x)) (omega (arith, some_x));
      y = between_cell (slice_index inner.lo 1) (slice_index inner.hi 1) (slice_index inner.hi 1 - 1) (omega (arith, some_y)) (omega (arith, some_y));
      z = between_cell (slice_index inner.lo 2) (slice_index inner.hi 2) (slice_index inner.hi 2 - 1) (omega (arith, some_z)) (omega (arith, some_z));
    }))) in
    record {
      x = part_along outer inner 0 some_x low.x high.x;
      y = part_along outer inner 1 some_y low.y high.y;
      z = part_along outer inner 2 some_z low.z high.z;
    }

of_one : {A : Type 0} (P : A → Type 0) (b : A) → Any P (b ∷ []) → P b
of_one P b (zero, x, within, same, holds) = subst P (sym same) holds
of_one P b (suc k, x, within, same, holds) = absurd (omega arith)

same_tests : (a b : Bool) → (a ≡ true → b ≡ true) → (b ≡ true → a ≡ true) → a ≡ b
same_tests true b to from = sym (to refl)
same_tests false true to from = from refl
same_tests false false to from = refl

or_none : (b : Bool) → b ≡ true → (b || false) ≡ true
or_none true is = refl
or_none false is = is

-- On a tiled level of one box.
module _ (meets : SpansMeetInIndexes) (l : Level) (b : BoxLine) (only : l.boxes ≡ b ∷ []) (tiled : IsTiled l) where
  patch_is_part : (patch : ℕ) → patch < length l.patches → IsPart b (patch_at l patch)
  patch_is_part patch below =
      part_of b (patch_at l patch) (tiled.patches patch (record { line = 0; lo = []; hi = [] }) below)
      (of_one (λ (c : BoxLine). LiesIn (cells_of (patch_at l patch)) (cells_of c)) b
      (subst (λ (bs : List BoxLine). Any (λ c. LiesIn (cells_of (patch_at l patch)) (cells_of c)) bs) only
      (tiled.inside patch (record { line = 0; lo = []; hi = [] }) below)))

  -- the patch in which a cell of the box lies
  patch_with : (i : Index) → is_inside (cells_of b) i ≡ true → (patch : ℕ) × (patch < length l.patches) × (is_inside (cells_of (patch_at l patch)) i ≡ true)
  patch_with i held = by_any (tiled.filled i (subst (λ (bs : List BoxLine). list_any (λ s. is_inside s i) (map (space_of Cell) bs) ≡ true) (sym only) (or_none (is_inside (cells_of b) i) held)))
    where
      by_any : Any (λ q. IsTrue (is_inside (cells_of q) i)) l.patches → (patch : ℕ) × (patch < length l.patches) × (is_inside (cells_of (patch_at l patch)) i ≡ true)
      by_any (patch, q, below, same, holds) = (
        patch,
        below,
        subst (λ (r : BoxLine). is_inside (cells_of r) i ≡ true) (sym (get_or_default l.patches patch (record { line = 0; lo = []; hi = [] }) q below ∙ same)) holds,
      )

  module _ (Fits : ℕ → Type 0) (before_x behind_x before_y behind_y before_z behind_z : ℕ → ℤ) (on_x : IsSpread Fits before_x behind_x) (on_y : IsSpread Fits before_y behind_y)
      (on_z : IsSpread Fits before_z behind_z) (box_fits : DoFit Fits b) (patches_fit : All (DoFit Fits) l.patches) where
    -- the window around a line
    abbrev window : BoxLine → Span
    window q = record {
      lo = index (before_x (slice_index q.lo 0)) (before_y (slice_index q.lo 1)) (before_z (slice_index q.lo 2));
      hi = index (behind_x (slice_index q.hi 0)) (behind_y (slice_index q.hi 1)) (behind_z (slice_index q.hi 2));
    }

    in_box_window : (patch : ℕ) → patch < length l.patches → (i : Index) → is_inside (window (patch_at l patch)) i ≡ true → is_inside (window b) i ≡ true
    in_box_window patch below i held =
        let part = patch_is_part patch below in
        let axes = axes_of (window (patch_at l patch)) i held in
        inside (window b) i (record {
          x = on_x.widens _ _ _ _ part.x.low part.x.high i.x axes.x;
          y = on_y.widens _ _ _ _ part.y.low part.y.high i.y axes.y;
          z = on_z.widens _ _ _ _ part.z.low part.z.high i.z axes.z;
        })

    in_patch_window : (i : Index) → is_inside (window b) i ≡ true → (patch : ℕ) × (patch < length l.patches) × (is_inside (window (patch_at l patch)) i ≡ true)
    in_patch_window i held =
        let axes = axes_of (window b) i held in
        let x = on_x.seen (slice_index b.lo 0) (slice_index b.hi 0) (box_fits 0 (omega arith)).0 (box_fits 0 (omega arith)).1 (proper 0 (omega arith)) i.x axes.x in
        let y = on_y.seen (slice_index b.lo 1) (slice_index b.hi 1) (box_fits 1 (omega arith)).0 (box_fits 1 (omega arith)).1 (proper 1 (omega arith)) i.y axes.y in
        let z = on_z.seen (slice_index b.lo 2) (slice_index b.hi 2) (box_fits 2 (omega arith)).0 (box_fits 2 (omega arith)).1 (proper 2 (omega arith)) i.z axes.z in
        let cell = index (pos x.0) (pos y.0) (pos z.0) in
        let there = patch_with cell (inside (cells_of b) cell (record {
          x = between_cell (slice_index b.lo 0) (slice_index b.hi 0) x.0 x.1 x.2;
          y = between_cell (slice_index b.lo 1) (slice_index b.hi 1) y.0 y.1 y.2;
          z = between_cell (slice_index b.lo 2) (slice_index b.hi 2) z.0 z.1 z.2;
        })) in
        let q : BoxLine = patch_at l there.0 in
        let on = axes_of (cells_of q) cell there.2 in
        let fit = patches_fit there.0 (record { line = 0; lo = []; hi = [] }) there.1 in
        let at_x = cell_between (slice_index q.lo 0) (slice_index q.hi 0) x.0 on.x in
        let at_y = cell_between (slice_index q.lo 1) (slice_index q.hi 1) y.0 on.y in
        let at_z = cell_between (slice_index q.lo 2) (slice_index q.hi 2) z.0 on.z in (
          there.0,
          there.1,
          inside (window q) i (record {
            x = x.3 (slice_index q.lo 0) (slice_index q.hi 0) (fit 0 (omega arith)).0 (fit 0 (omega arith)).1 at_x.0 at_x.1;
            y = y.3 (slice_index q.lo 1) (slice_index q.hi 1) (fit 1 (omega arith)).0 (fit 1 (omega arith)).1 at_y.0 at_y.1;
            z = z.3 (slice_index q.lo 2) (slice_index q.hi 2) (fit 2 (omega arith)).0 (fit 2 (omega arith)).1 at_z.0 at_z.1;
          }),
        )
      where
        proper : IsProper b
        proper = subst (All IsProper) only tiled.boxes 0 b (omega arith)

    -- a span meets the window around the box exactly where it meets that around a patch
    pub box_meets : (own : Span) → do_meet own (window b) ≡ list_any (λ near. do_meet own (window (patch_at l near))) (counted 0 (length l.patches))
    box_meets own = same_tests _ _ to_patch to_box
      where
        to_patch : do_meet own (window b) ≡ true → list_any (λ near. do_meet own (window (patch_at l near))) (counted 0 (length l.patches)) ≡ true
        to_patch meet =
            let common = (meets own (window b)).0 meet in
            let there = in_patch_window common.0 common.2 in
            any-counted_at (λ near. do_meet own (window (patch_at l near))) (length l.patches) there.0 there.1
            ((meets own (window (patch_at l there.0))).1 (common.0, common.1, there.2))

        to_box : list_any (λ near. do_meet own (window (patch_at l near))) (counted 0 (length l.patches)) ≡ true → do_meet own (window b) ≡ true
        to_box some =
            let found = at_place (λ near. do_meet own (window (patch_at l near))) (counted 0 (length l.patches)) some in
            let place = at-counted (length l.patches) found.0 found.1 found.2 in
            let common = (meets own (window (patch_at l found.1))).0 found.3 in
            (meets own (window b)).1 (common.0, common.1, in_box_window found.1 (omega (arith, place.0, place.1)) common.0 common.2)
