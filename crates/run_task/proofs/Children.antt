-- The children of an index that a patch owns lie in the patch, refined.
use Rattle.std.proofs.Common.{◌≡◌, ℕ, ℤ, pos, negsuc, ◌+◌, ◌*◌, ◌<◌, ◌+ℤ◌, ◌*ℤ◌, ◌⊎◌, inl, inr, Bool, true, false, List, map, arith}
use Rattle.std.specs.Prelude.{All, ◌&&◌, if◌then◌else◌, slice_index}
use Rattle.std.specs.List.{AllByRecursion, flat_map}
use Rattle.std.proofs.lemmas.List.Elements.{All-from_recursion, All-map, All-weaker}
use Rattle.uts_geom.specs.Centrings.{is_point_like}
use Rattle.uts_geom.specs.Spans.{index, is_between, is_inside}
use Rattle.uts_geom.specs.declared.centring.Axis.TheVariants.{X, Y, Z}
use Rattle.uts_geom.specs.declared.centring.Centring.{Centring}
use Rattle.uts_geom.specs.declared.index.Index.{Index}
use Rattle.problem_types.specs.Levels.{cells_of}
use Rattle.problem_types.specs.Regions.{children_along, end_of}
use Rattle.problem_types.specs.declared.problem.Level.{Level}
use Rattle.patch_regions.specs.Regions.{owned_span, patch_at}
use Rattle.refine_coarsen.specs.Levels.{children_at}
use Rattle.task_check.specs.Plan.{refined}
use Rattle.run_task.proofs.Offsets.{axes_of_inside, between, bounds_of, inside_on_axes, is_last}
use Rattle.run_task.proofs.Lists.{all_pieces}

-- ---- along one axis

-- the children's bounds of a patch
abbrev IsChildOf : (ratio low high : ℕ) (point : Bool) → ℤ → Type 0
IsChildOf ratio low high point c = is_between (pos ratio *ℤ pos low) (pos ratio *ℤ pos high +ℤ (if point then pos 1 else pos 0)) c ≡ true

point_of_two : (low high a : ℕ) (last : Bool) → is_between (pos low) (end_of last high) (pos a) ≡ true → IsChildOf 2 low high true (pos 2 *ℤ pos a)
point_of_two low high a true runs =
    let at = bounds_of low (high + 1) a runs in between (2 * low) (2 * high + 1) (2 * a) (omega (arith, at.0)) (omega (arith, at.1))
point_of_two low high a false runs =
    let at = bounds_of low high a runs in between (2 * low) (2 * high + 1) (2 * a) (omega (arith, at.0)) (omega (arith, at.1))

point_of_four : (low high a : ℕ) (last : Bool) → is_between (pos low) (end_of last high) (pos a) ≡ true → IsChildOf 4 low high true (pos 4 *ℤ pos a)
point_of_four low high a true runs =
    let at = bounds_of low (high + 1) a runs in between (4 * low) (4 * high + 1) (4 * a) (omega (arith, at.0)) (omega (arith, at.1))
point_of_four low high a false runs =
    let at = bounds_of low high a runs in between (4 * low) (4 * high + 1) (4 * a) (omega (arith, at.0)) (omega (arith, at.1))

cell_of_two : (low high a j : ℕ) → is_between (pos low) (pos high) (pos a) ≡ true → j < 2 → IsChildOf 2 low high false (pos 2 *ℤ pos a +ℤ pos j)
cell_of_two low high a j runs below =
    let at = bounds_of low high a runs in between (2 * low) (2 * high + 0) (2 * a + j) (omega (arith, at.0)) (omega (arith, at.1))

cell_of_four : (low high a j : ℕ) → is_between (pos low) (pos high) (pos a) ≡ true → j < 4 → IsChildOf 4 low high false (pos 4 *ℤ pos a +ℤ pos j)
cell_of_four low high a j runs below =
    let at = bounds_of low high a runs in between (4 * low) (4 * high + 0) (4 * a + j) (omega (arith, at.0)) (omega (arith, at.1))

children_of_two : (low high a : ℕ) (point last : Bool) → is_between (pos low) (end_of (point && last) high) (pos a) ≡ true →
    AllByRecursion (IsChildOf 2 low high point) (children_along point 2 (pos a))
children_of_two low high a true last runs = (point_of_two low high a last runs, tt)
children_of_two low high a false last runs = (cell_of_two low high a 0 runs (omega arith), (cell_of_two low high a 1 runs (omega arith), tt))

children_of_four : (low high a : ℕ) (point last : Bool) → is_between (pos low) (end_of (point && last) high) (pos a) ≡ true →
    AllByRecursion (IsChildOf 4 low high point) (children_along point 4 (pos a))
children_of_four low high a true last runs = (point_of_four low high a last runs, tt)
children_of_four low high a false last runs = (
  cell_of_four low high a 0 runs (omega arith),
  (cell_of_four low high a 1 runs (omega arith), (cell_of_four low high a 2 runs (omega arith), (cell_of_four low high a 3 runs (omega arith), tt))),
)

children_on_axis : (ratio low high : ℕ) (point last : Bool) (n : ℤ) → (ratio ≡ 2) ⊎ (ratio ≡ 4) → is_between (pos low) (end_of (point && last) high) n ≡ true →
    All (IsChildOf ratio low high point) (children_along point ratio n)
children_on_axis ratio low high point last (negsuc a) is runs = absurd (cc)
children_on_axis ratio low high point last (pos a) (inl two) runs =
    rw two (All-from_recursion (IsChildOf 2 low high point) (children_along point 2 (pos a)) (children_of_two low high a point last runs))
children_on_axis ratio low high point last (pos a) (inr four) runs =
    rw four (All-from_recursion (IsChildOf 4 low high point) (children_along point 4 (pos a)) (children_of_four low high a point last runs))

-- ---- of an index

-- what holds of each coordinate of a list holds of the indexes that they make
all_indexes : (P Q R : ℤ → Type 0) (I : Index → Type 0) → ((x y z : ℤ) → P x → Q y → R z → I (index x y z)) → (xs ys zs : List ℤ) →
    All P xs → All Q ys → All R zs → All I (flat_map (λ z. flat_map (λ y. map (λ x. index x y z) xs) ys) zs)
all_indexes P Q R I makes xs ys zs on_x on_y on_z =
    all_pieces I (λ z. flat_map (λ y. map (λ x. index x y z) xs) ys) zs
    (All-weaker R (λ z. All I (flat_map (λ y. map (λ x. index x y z) xs) ys)) (λ z at_z.
    all_pieces I (λ y. map (λ x. index x y z) xs) ys
    (All-weaker Q (λ y. All I (map (λ x. index x y z) xs)) (λ y at_y.
    All-map I (λ x. index x y z) xs
    (All-weaker P (λ x. I (index x y z)) (λ x at_x. makes x y z at_x at_y at_z) xs on_x))
    ys on_y))
    zs on_z)

module _ (l : Level) (patch ratio : ℕ) (is : (ratio ≡ 2) ⊎ (ratio ≡ 4)) (c : Centring) (i : Index) (owned : is_inside (owned_span c l patch) i ≡ true) where
  pub children_inside : All (λ j. is_inside (refined c ratio (cells_of (patch_at l patch))) j ≡ true) (children_at ratio c i)
  children_inside =
      let q = patch_at l patch in
      let on = axes_of_inside (owned_span c l patch) i owned in
      let s = refined c ratio (cells_of q) in
      all_indexes (IsChildOf ratio (slice_index q.lo 0) (slice_index q.hi 0) (is_point_like c X)) (IsChildOf ratio (slice_index q.lo 1) (slice_index q.hi 1) (is_point_like c Y))
      (IsChildOf ratio (slice_index q.lo 2) (slice_index q.hi 2) (is_point_like c Z)) (λ j. is_inside s j ≡ true)
      (λ x y z at_x at_y at_z. inside_on_axes s (index x y z) (record { x = at_x; y = at_y; z = at_z }))
      (children_along (is_point_like c X) ratio i.x) (children_along (is_point_like c Y) ratio i.y) (children_along (is_point_like c Z) ratio i.z)
      (children_on_axis ratio (slice_index q.lo 0) (slice_index q.hi 0) (is_point_like c X) (is_last l patch 0) i.x is on.x)
      (children_on_axis ratio (slice_index q.lo 1) (slice_index q.hi 1) (is_point_like c Y) (is_last l patch 1) i.y is on.y)
      (children_on_axis ratio (slice_index q.lo 2) (slice_index q.hi 2) (is_point_like c Z) (is_last l patch 2) i.z is on.z)
