-- What patches own tiles the index space of a level whose boxes are apart: each index of it belongs to the cell beside it.
use Rattle.std.proofs.Common.{◌≡◌, ◌∙◌, ◌<◌, ◌≤◌, ◌-◌, ◌⊎◌, inl, inr, ℕ, ℤ, pos, ◌-ℤ◌, ◌≤ℤ◌, ◌<ℤ◌, Bool, true, false, Option, None, Some, List, length, map, ap, refl, sym, subst, arith}
use Rattle.std.specs.Prelude.{◌==◌, ◌&&◌, IsTrue, Any, unwrap_or, slice_get, slice_index}
use Rattle.std.specs.Int.{int_min}
use Rattle.std.specs.List.{list_any}
use Rattle.std.specs.Option.{option_map}
use Rattle.std.proofs.lemmas.Bool.{cases_order, eqb-true, eqb-false}
use Rattle.std.proofs.lemmas.Int.{ints, clamps}
use Rattle.std.proofs.lemmas.List.{get_or_default}
use Rattle.std.proofs.lemmas.Option.{get_or_from_slice_get, slice_get-get_or, slice_get-map, slice_get_within}
use Rattle.uts_geom.specs.Centrings.{is_point_like}
use Rattle.uts_geom.specs.Lists.{any_at, at_place, find_only}
use Rattle.uts_geom.specs.Spans.{index, is_between, is_inside}
use Rattle.uts_geom.specs.declared.centring.Axis.TheVariants.{X, Y, Z}
use Rattle.uts_geom.specs.declared.centring.Centring.{Centring}
use Rattle.uts_geom.specs.declared.centring.Centring.TheVariants.{Cell}
use Rattle.uts_geom.specs.declared.index.Index.{Index}
use Rattle.uts_geom.specs.declared.span.Span.{Span}
use Rattle.problem_types.specs.Levels.{IsProper, IsTiled, LiesIn, cells_of, is_on_level}
use Rattle.problem_types.specs.Regions.{end_of, space_of}
use Rattle.problem_types.specs.declared.problem.BoxLine.{BoxLine}
use Rattle.problem_types.specs.declared.problem.Level.{Level}
use Rattle.patch_regions.specs.Regions.{patch_at, box_of, owned_in, owned_span, Owns}
use Rattle.patch_regions.specs.Laws.{AreBoxesApart, OwnedSpansTile}
use Rattle.uts_geom.specs.Axes.{by_axes, inside_from_axes}

bounds_of : (low high n : ℤ) → is_between low high n ≡ true → (low ≤ℤ n) × (n <ℤ high)
bounds_of low high n between = (grind (arith, ints), grind (arith, ints))

between : (low high n : ℤ) → low ≤ℤ n → n <ℤ high → is_between low high n ≡ true
between low high n above below = grind (arith, ints)

-- On an axis

-- a patch has cells, and lies in a box
record Fits (low high from to : ℕ) : Type 0 where
  above : low ≤ from
  some : from < to
  below : to ≤ high

-- the cell beside a coordinate of a box's index space: at the high bound the last one
abbrev cell_beside : Bool → ℕ → ℤ → ℤ
cell_beside true high n = int_min n (pos high -ℤ pos 1)
cell_beside false high n = n

owned_by_cell : (last : Bool) (low high from to : ℕ) (n : ℤ) → (to == high) ≡ last → Fits low high from to → n <ℤ end_of true high →
    is_between (pos from) (pos to) (cell_beside true high n) ≡ true → is_between (pos from) (end_of last to) n ≡ true
owned_by_cell true low high from to n ends fits on of =
    let cell = bounds_of (pos from) (pos to) (cell_beside true high n) of in
    let same = eqb-true to high ends in
    between (pos from) (end_of true to) n (omega (arith, ints, clamps)) (omega (arith, ints, clamps))
owned_by_cell false low high from to n ends fits on of =
    let cell = bounds_of (pos from) (pos to) (cell_beside true high n) of in
    let other = eqb-false to high ends in
    between (pos from) (end_of false to) n (omega (arith, ints, clamps)) (omega (arith, ints, clamps))

cell_of_owned : (last : Bool) (low high from to : ℕ) (n : ℤ) → (to == high) ≡ last → Fits low high from to →
    is_between (pos from) (end_of last to) n ≡ true → is_between (pos from) (pos to) (cell_beside true high n) ≡ true
cell_of_owned true low high from to n ends fits of =
    let at = bounds_of (pos from) (end_of true to) n of in
    let same = eqb-true to high ends in
    between (pos from) (pos to) (cell_beside true high n) (omega (arith, ints, clamps)) (omega (arith, ints, clamps))
cell_of_owned false low high from to n ends fits of =
    let at = bounds_of (pos from) (end_of false to) n of in
    let other = eqb-false to high ends in
    between (pos from) (pos to) (cell_beside true high n) (omega (arith, ints, clamps)) (omega (arith, ints, clamps))

-- in a box's index space, a coordinate is owned where the cell beside it is one of the patch
owned_from_cell : (point : Bool) (low high from to : ℕ) (n : ℤ) → Fits low high from to → is_between (pos low) (end_of point high) n ≡ true →
    is_between (pos from) (pos to) (cell_beside point high n) ≡ true → is_between (pos from) (end_of (point && (to == high)) to) n ≡ true
owned_from_cell false low high from to n fits on of = of
owned_from_cell true low high from to n fits on of =
    owned_by_cell (to == high) low high from to n refl fits (bounds_of (pos low) (end_of true high) n on).1 of

cell_from_owned : (point : Bool) (low high from to : ℕ) (n : ℤ) → Fits low high from to →
    is_between (pos from) (end_of (point && (to == high)) to) n ≡ true → is_between (pos from) (pos to) (cell_beside point high n) ≡ true
cell_from_owned false low high from to n fits of = of
cell_from_owned true low high from to n fits of = cell_of_owned (to == high) low high from to n refl fits of

ends_within : (point last : Bool) (to high : ℕ) → to ≤ high → end_of (point && last) to ≤ℤ end_of point high
ends_within false last to high below = omega (arith, ints)
ends_within true false to high below = omega (arith, ints)
ends_within true true to high below = omega (arith, ints)

owned_within : (point : Bool) (low high from to : ℕ) (n : ℤ) → Fits low high from to →
    is_between (pos from) (end_of (point && (to == high)) to) n ≡ true → is_between (pos low) (end_of point high) n ≡ true
owned_within point low high from to n fits of =
    let at = bounds_of (pos from) (end_of (point && (to == high)) to) n of in
    let ends = ends_within point (to == high) to high fits.below in
    between (pos low) (end_of point high) n (let least = at.0 in omega (arith, ints)) (let less = at.1 in omega (arith, ints))

cell_within : (point : Bool) (low high : ℕ) (n : ℤ) → low < high → is_between (pos low) (end_of point high) n ≡ true →
    is_between (pos low) (pos high) (cell_beside point high n) ≡ true
cell_within false low high n some on = on
cell_within true low high n some on =
    let at = bounds_of (pos low) (end_of true high) n on in
    between (pos low) (pos high) (cell_beside true high n) (omega (arith, ints, clamps)) (omega (arith, ints, clamps))

-- On a box

record FitsIn (b q : BoxLine) : Type 0 where
  x : Fits (slice_index b.lo 0) (slice_index b.hi 0) (slice_index q.lo 0) (slice_index q.hi 0)
  y : Fits (slice_index b.lo 1) (slice_index b.hi 1) (slice_index q.lo 1) (slice_index q.hi 1)
  z : Fits (slice_index b.lo 2) (slice_index b.hi 2) (slice_index q.lo 2) (slice_index q.hi 2)

first_within : (from to : ℕ) → from < to → is_between (pos from) (pos to) (pos from) ≡ true
first_within from to some = between (pos from) (pos to) (pos from) (omega (arith, ints)) (omega (arith, ints))

last_within : (from to : ℕ) → from < to → is_between (pos from) (pos to) (pos (to - 1)) ≡ true
last_within from to some = between (pos from) (pos to) (pos (to - 1)) (omega (arith, ints)) (omega (arith, ints))

fits_on : (low high from to : ℕ) → from < to → is_between (pos low) (pos high) (pos from) ≡ true → is_between (pos low) (pos high) (pos (to - 1)) ≡ true → Fits low high from to
fits_on low high from to some first last =
    let at_first = bounds_of (pos low) (pos high) (pos from) first in
    let at_last = bounds_of (pos low) (pos high) (pos (to - 1)) last in
    record { above = (let f = at_first.0 in omega (arith, ints)); some = some; below = (let l = at_last.1 in omega (arith, ints)) }

first_cell : (q : BoxLine) → IsProper q → is_inside (cells_of q) (cells_of q).lo ≡ true
first_cell q proper = inside_from_axes (cells_of q) (cells_of q).lo (record {
  x = first_within (slice_index q.lo 0) (slice_index q.hi 0) (proper 0 (omega arith));
  y = first_within (slice_index q.lo 1) (slice_index q.hi 1) (proper 1 (omega arith));
  z = first_within (slice_index q.lo 2) (slice_index q.hi 2) (proper 2 (omega arith));
})

abbrev last_of : BoxLine → Index
last_of q = index (pos (slice_index q.hi 0 - 1)) (pos (slice_index q.hi 1 - 1)) (pos (slice_index q.hi 2 - 1))

last_cell : (q : BoxLine) → IsProper q → is_inside (cells_of q) (last_of q) ≡ true
last_cell q proper = inside_from_axes (cells_of q) (last_of q) (record {
  x = last_within (slice_index q.lo 0) (slice_index q.hi 0) (proper 0 (omega arith));
  y = last_within (slice_index q.lo 1) (slice_index q.hi 1) (proper 1 (omega arith));
  z = last_within (slice_index q.lo 2) (slice_index q.hi 2) (proper 2 (omega arith));
})

fits_in : (b q : BoxLine) → IsProper q → LiesIn (cells_of q) (cells_of b) → FitsIn b q
fits_in b q proper lies =
    let first = by_axes (cells_of b) (cells_of q).lo (lies (cells_of q).lo (first_cell q proper)) in
    let last = by_axes (cells_of b) (last_of q) (lies (last_of q) (last_cell q proper)) in
    record {
      x = fits_on (slice_index b.lo 0) (slice_index b.hi 0) (slice_index q.lo 0) (slice_index q.hi 0) (proper 0 (omega arith)) first.x last.x;
      y = fits_on (slice_index b.lo 1) (slice_index b.hi 1) (slice_index q.lo 1) (slice_index q.hi 1) (proper 1 (omega arith)) first.y last.y;
      z = fits_on (slice_index b.lo 2) (slice_index b.hi 2) (slice_index q.lo 2) (slice_index q.hi 2) (proper 2 (omega arith)) first.z last.z;
    }

abbrev beside : Centring → BoxLine → Index → Index
beside c b i = index (cell_beside (is_point_like c X) (slice_index b.hi 0) i.x) (cell_beside (is_point_like c Y) (slice_index b.hi 1) i.y)
    (cell_beside (is_point_like c Z) (slice_index b.hi 2) i.z)

owns_by_cell : (c : Centring) (b q : BoxLine) (i : Index) → FitsIn b q → is_inside (space_of c b) i ≡ true → is_inside (cells_of q) (beside c b i) ≡ true →
    is_inside (owned_in c b q) i ≡ true
owns_by_cell c b q i fits on of =
    let at = by_axes (space_of c b) i on in
    let cell = by_axes (cells_of q) (beside c b i) of in
    inside_from_axes (owned_in c b q) i (record {
      x = owned_from_cell (is_point_like c X) (slice_index b.lo 0) (slice_index b.hi 0) (slice_index q.lo 0) (slice_index q.hi 0) i.x fits.x at.x cell.x;
      y = owned_from_cell (is_point_like c Y) (slice_index b.lo 1) (slice_index b.hi 1) (slice_index q.lo 1) (slice_index q.hi 1) i.y fits.y at.y cell.y;
      z = owned_from_cell (is_point_like c Z) (slice_index b.lo 2) (slice_index b.hi 2) (slice_index q.lo 2) (slice_index q.hi 2) i.z fits.z at.z cell.z;
    })

cell_of : (c : Centring) (b q : BoxLine) (i : Index) → FitsIn b q → is_inside (owned_in c b q) i ≡ true → is_inside (cells_of q) (beside c b i) ≡ true
cell_of c b q i fits of =
    let at = by_axes (owned_in c b q) i of in
    inside_from_axes (cells_of q) (beside c b i) (record {
      x = cell_from_owned (is_point_like c X) (slice_index b.lo 0) (slice_index b.hi 0) (slice_index q.lo 0) (slice_index q.hi 0) i.x fits.x at.x;
      y = cell_from_owned (is_point_like c Y) (slice_index b.lo 1) (slice_index b.hi 1) (slice_index q.lo 1) (slice_index q.hi 1) i.y fits.y at.y;
      z = cell_from_owned (is_point_like c Z) (slice_index b.lo 2) (slice_index b.hi 2) (slice_index q.lo 2) (slice_index q.hi 2) i.z fits.z at.z;
    })

in_space : (c : Centring) (b q : BoxLine) (i : Index) → FitsIn b q → is_inside (owned_in c b q) i ≡ true → is_inside (space_of c b) i ≡ true
in_space c b q i fits of =
    let at = by_axes (owned_in c b q) i of in
    inside_from_axes (space_of c b) i (record {
      x = owned_within (is_point_like c X) (slice_index b.lo 0) (slice_index b.hi 0) (slice_index q.lo 0) (slice_index q.hi 0) i.x fits.x at.x;
      y = owned_within (is_point_like c Y) (slice_index b.lo 1) (slice_index b.hi 1) (slice_index q.lo 1) (slice_index q.hi 1) i.y fits.y at.y;
      z = owned_within (is_point_like c Z) (slice_index b.lo 2) (slice_index b.hi 2) (slice_index q.lo 2) (slice_index q.hi 2) i.z fits.z at.z;
    })

cell_in_box : (c : Centring) (b : BoxLine) (i : Index) → IsProper b → is_inside (space_of c b) i ≡ true → is_inside (cells_of b) (beside c b i) ≡ true
cell_in_box c b i proper on =
    let at = by_axes (space_of c b) i on in
    inside_from_axes (cells_of b) (beside c b i) (record {
      x = cell_within (is_point_like c X) (slice_index b.lo 0) (slice_index b.hi 0) i.x (proper 0 (omega arith)) at.x;
      y = cell_within (is_point_like c Y) (slice_index b.lo 1) (slice_index b.hi 1) i.y (proper 1 (omega arith)) at.y;
      z = cell_within (is_point_like c Z) (slice_index b.lo 2) (slice_index b.hi 2) i.z (proper 2 (omega arith)) at.z;
    })

-- On a level

-- the cells of a box lie in each of its index spaces
within_end : (point : Bool) (low high : ℕ) (n : ℤ) → is_between (pos low) (pos high) n ≡ true → is_between (pos low) (end_of point high) n ≡ true
within_end false low high n on = on
within_end true low high n on =
    let at = bounds_of (pos low) (pos high) n on in
    between (pos low) (end_of true high) n (omega (arith, ints)) (omega (arith, ints))

cells_in_space : (c : Centring) (b : BoxLine) (i : Index) → is_inside (cells_of b) i ≡ true → is_inside (space_of c b) i ≡ true
cells_in_space c b i on =
    let at = by_axes (cells_of b) i on in
    inside_from_axes (space_of c b) i (record {
      x = within_end (is_point_like c X) (slice_index b.lo 0) (slice_index b.hi 0) i.x at.x;
      y = within_end (is_point_like c Y) (slice_index b.lo 1) (slice_index b.hi 1) i.y at.y;
      z = within_end (is_point_like c Z) (slice_index b.lo 2) (slice_index b.hi 2) i.z at.z;
    })

by_order : (j k : ℕ) → (j ≡ k) ⊎ ((j < k) ⊎ (k < j)) → (j < k → ⊥) → (k < j → ⊥) → j ≡ k
by_order j k (inl same) below above = same
by_order j k (inr (inl less)) below above = absurd (below less)
by_order j k (inr (inr more)) below above = absurd (above more)

-- An index lies in one of the index spaces where it lies in that of a box.
box_with : (c : Centring) (bs : List BoxLine) (i : Index) → list_any (λ s. is_inside s i) (map (space_of c) bs) ≡ true →
    (m : ℕ) × (b : BoxLine) × (slice_get bs m ≡ Some b) × (is_inside (space_of c b) i ≡ true)
box_with c bs i on = by_box (slice_get bs at.0) refl
  where
    at : (m : ℕ) × (s : Span) × (slice_get (map (space_of c) bs) m ≡ Some s) × (is_inside s i ≡ true)
    at = at_place (λ s. is_inside s i) (map (space_of c) bs) on

    by_box : (o : Option BoxLine) → slice_get bs at.0 ≡ o → (m : ℕ) × (b : BoxLine) × (slice_get bs m ≡ Some b) × (is_inside (space_of c b) i ≡ true)
    by_box None there = let mapped = sym (slice_get-map (space_of c) bs at.0 ∙ ap (option_map (space_of c)) there) ∙ at.2 in absurd cc
    by_box (Some b) there =
        let mapped : Some (space_of c b) ≡ Some at.1 = sym (slice_get-map (space_of c) bs at.0 ∙ ap (option_map (space_of c)) there) ∙ at.2 in
        let same : space_of c b ≡ at.1 = cc in
        (at.0, b, there, ap (λ (s : Span). is_inside s i) same ∙ at.3)

on_level_in : (c : Centring) (bs : List BoxLine) (m : ℕ) (b : BoxLine) (i : Index) → slice_get bs m ≡ Some b → is_inside (space_of c b) i ≡ true →
    list_any (λ s. is_inside s i) (map (space_of c) bs) ≡ true
on_level_in c bs m b i there on =
    any_at (λ s. is_inside s i) (map (space_of c) bs) m (space_of c b) (slice_get-map (space_of c) bs m ∙ ap (option_map (space_of c)) there) on

-- boxes that are apart have no index in common unless they are the same one
same_place : (c : Centring) (l : Level) → AreBoxesApart c l → (m n : ℕ) (a b : BoxLine) (i : Index) → slice_get l.boxes m ≡ Some a → slice_get l.boxes n ≡ Some b →
    is_inside (space_of c a) i ≡ true → is_inside (space_of c b) i ≡ true → m ≡ n
same_place c l apart m n a b i a_there b_there in_a in_b = by_order m n (cases_order m n)
    (λ before. meets m n a b before a_there b_there in_a in_b) (λ before. meets n m b a before b_there a_there in_b in_a)
  where
    meets : (j k : ℕ) (x y : BoxLine) → j < k → slice_get l.boxes j ≡ Some x → slice_get l.boxes k ≡ Some y →
        is_inside (space_of c x) i ≡ true → is_inside (space_of c y) i ≡ true → ⊥
    meets j k x y before x_there y_there in_x in_y =
        apart j k x before (slice_get_within l.boxes k y y_there) i
        (ap (λ (b : BoxLine). is_inside (space_of c b) i) (get_or_from_slice_get l.boxes j x x x_there) ∙ in_x)
        (ap (λ (b : BoxLine). is_inside (space_of c b) i) (get_or_from_slice_get l.boxes k y x y_there) ∙ in_y)

-- a patch and the box in which it lies
record InBox (c : Centring) (l : Level) (k : ℕ) : Type 0 where
  place : ℕ
  box : BoxLine
  there : slice_get l.boxes place ≡ Some box
  lies : LiesIn (cells_of (patch_at l k)) (cells_of box)
  fits : FitsIn box (patch_at l k)
  owned : (i : Index) → is_inside (owned_span c l k) i ≡ is_inside (owned_in c box (patch_at l k)) i

in_box : (c : Centring) (l : Level) (k : ℕ) → IsTiled l → AreBoxesApart c l → k < length l.patches → InBox c l k
in_box c l k tiled apart below = by_box (tiled.inside k _ below)
  where
    by_box : Any (λ b. LiesIn (cells_of (patch_at l k)) (cells_of b)) l.boxes → InBox c l k
    by_box (m, b, m_below, same, lies) =
        let there : slice_get l.boxes m ≡ Some b = slice_get-get_or l.boxes m b m_below ∙ ap Some same in
        let low = (cells_of (patch_at l k)).lo in
        let low_in : is_inside (cells_of b) low ≡ true = lies low (first_cell (patch_at l k) (tiled.patches k _ below)) in
        let found : box_of l.boxes (patch_at l k) ≡ b = ap (λ (o : Option BoxLine). unwrap_or o (patch_at l k))
        (find_only (λ x. is_inside (cells_of x) low) l.boxes m b there low_in
        (λ n a a_there in_a. same_place c l apart n m a b low a_there there (cells_in_space c a low in_a) (cells_in_space c b low low_in))) in
        record {
          place = m;
          box = b;
          there = there;
          lies = lies;
          fits = fits_in b (patch_at l k) (tiled.patches k _ below) lies;
          owned = λ i. ap (λ (x : BoxLine). is_inside (owned_in c x (patch_at l k)) i) found;
        }

proper_box : (l : Level) (m : ℕ) (b : BoxLine) → IsTiled l → slice_get l.boxes m ≡ Some b → IsProper b
proper_box l m b tiled there =
    subst IsProper (get_or_from_slice_get l.boxes m b b there) (tiled.boxes m b (slice_get_within l.boxes m b there))

-- what a patch owns lies in the index space of its box
owned_in_box : (c : Centring) (l : Level) (k : ℕ) (i : Index) (at : InBox c l k) → is_inside (owned_span c l k) i ≡ true → is_inside (space_of c at.box) i ≡ true
owned_in_box c l k i at owned = in_space c at.box (patch_at l k) i at.fits (sym (at.owned i) ∙ owned)

some_owner : (c : Centring) (l : Level) (i : Index) → IsTiled l → AreBoxesApart c l → is_on_level c l i ≡ true → (patch : ℕ) × Owns c l patch i
some_owner c l i tiled apart on = by_box (box_with c l.boxes i on)
  where
    by_patch : (m : ℕ) (b : BoxLine) → slice_get l.boxes m ≡ Some b → is_inside (space_of c b) i ≡ true → is_inside (cells_of b) (beside c b i) ≡ true →
        Any (λ q. IsTrue (is_inside (cells_of q) (beside c b i))) l.patches → (patch : ℕ) × Owns c l patch i
    by_patch m b there in_b cell (k, q, below, same, holds) =
        let here : patch_at l k ≡ q = get_or_default l.patches k _ q below ∙ same in
        let of : is_inside (cells_of (patch_at l k)) (beside c b i) ≡ true = subst (λ (x : BoxLine). is_inside (cells_of x) (beside c b i) ≡ true) (sym here) holds in
        let at = in_box c l k tiled apart below in
        let place : at.place ≡ m = same_place c l apart at.place m at.box b (beside c b i) at.there there
        (cells_in_space c at.box (beside c b i) (at.lies (beside c b i) of)) (cells_in_space c b (beside c b i) cell) in
        let box : at.box ≡ b = cc in (
          k,
          (
            below,
            at.owned i ∙ ap (λ (x : BoxLine). is_inside (owned_in c x (patch_at l k)) i) box
                ∙ owns_by_cell c b (patch_at l k) i (subst (λ (x : BoxLine). FitsIn x (patch_at l k)) box at.fits) in_b of,
          ),
        )

    by_box : (m : ℕ) × (b : BoxLine) × (slice_get l.boxes m ≡ Some b) × (is_inside (space_of c b) i ≡ true) → (patch : ℕ) × Owns c l patch i
    by_box (m, b, there, in_b) =
        let cell = cell_in_box c b i (proper_box l m b tiled there) in_b in
        by_patch m b there in_b cell (tiled.filled (beside c b i) (on_level_in Cell l.boxes m b (beside c b i) there cell))

owned_once : (c : Centring) (l : Level) (i : Index) (j k : ℕ) → IsTiled l → AreBoxesApart c l → Owns c l j i → Owns c l k i → j < k → ⊥
owned_once c l i j k tiled apart (j_below, j_owns) (k_below, k_owns) before =
    let a = in_box c l j tiled apart j_below in
    let b = in_box c l k tiled apart k_below in
    let place : a.place ≡ b.place = same_place c l apart a.place b.place a.box b.box i a.there b.there (owned_in_box c l j i a j_owns) (owned_in_box c l k i b k_owns) in
    let a_there = a.there in
    let b_there = b.there in
    let box : a.box ≡ b.box = cc in
    tiled.apart j k _ before k_below (beside c a.box i) (cell_of c a.box (patch_at l j) i a.fits (sym (a.owned i) ∙ j_owns))
    (subst (λ (x : BoxLine). is_inside (cells_of (patch_at l k)) (beside c x i) ≡ true) (sym box) (cell_of c b.box (patch_at l k) i b.fits (sym (b.owned i) ∙ k_owns)))

pub tile : OwnedSpansTile
tile l c i tiled apart = (
  (
    λ on. some_owner c l i tiled apart on,
    λ (k, (below, owns)). let at = in_box c l k tiled apart below in on_level_in c l.boxes at.place at.box i at.there (owned_in_box c l k i at owns),
  ),
  λ j k first second. by_order j k (cases_order j k)
      (λ before. owned_once c l i j k tiled apart first second before)
      (λ before. owned_once c l i k j tiled apart second first before),
)
