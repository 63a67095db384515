-- How many indexes a window has in the index space of a level, and a patch owns: at most eight times as many as a level has cells.
use Rattle.std.proofs.Common.{◌≡◌, ◌∙◌, ◌≤◌, ◌<◌, ◌+◌, ◌*◌, ◌-◌, ℕ, zero, suc, ℤ, pos, Bool, true, false, List, [], ◌∷◌, length, map, sum, refl, sym, ap, subst, arith, length-append}
use Rattle.std.specs.Prelude.{All, Any, slice_index}
use Rattle.std.specs.Int.{int_gap, int_max, int_min}
use Rattle.std.specs.List.{flat_map}
use Rattle.std.proofs.Math.Nat.{mul-le-mul}
use Rattle.std.proofs.lemmas.Int.{ints}
use Rattle.std.proofs.lemmas.List.{length-map}
use Rattle.std.proofs.lemmas.List.Elements.{All-head}
use Rattle.uts_geom.specs.Centrings.{is_point_like}
use Rattle.uts_geom.specs.Spans.{index, from_to, row_indexes, indexes_of, is_between, width_of, height_of, depth_of, meet_of}
use Rattle.uts_geom.specs.declared.centring.Axis.TheVariants.{X, Y, Z}
use Rattle.uts_geom.specs.declared.centring.Centring.{Centring}
use Rattle.uts_geom.specs.declared.index.Index.{Index}
use Rattle.uts_geom.specs.declared.span.Span.{Span}
use Rattle.uts_geom.specs.Places.{length-from_to}
use Rattle.problem_types.specs.Levels.{IsProper, LiesIn, cells_of}
use Rattle.problem_types.specs.Regions.{end_of, space_of, spaces_on}
use Rattle.problem_types.specs.declared.problem.BoxLine.{BoxLine}
use Rattle.problem_types.specs.declared.problem.Level.{Level}
use Rattle.problem_types.specs.declared.problem.Problem.{Problem}
use Rattle.patch_regions.specs.Regions.{owned_span, patch_at, reaching}
use Rattle.task_check.specs.Bounds.{IsBoundedLevel}
use Rattle.run_task.proofs.Offsets.{axes_of_inside, between, bounds_of, inside_on_axes}

-- ---- the indexes of a span are as many as the product of its widths

length_pieces : {A B : Type 0} (f : A → List B) (n : ℕ) → ((a : A) → length (f a) ≡ n) → (items : List A) → length (flat_map f items) ≡ n * length items
length_pieces f n each [] = omega arith
length_pieces f n each (a ∷ items) = length-append (f a) (flat_map f items) ∙ omega (arith, each a, length_pieces f n each items)

pub length-indexes : (s : Span) → length (indexes_of s) ≡ (width_of s * height_of s) * depth_of s
length-indexes s =
    length_pieces plane (width_of s * height_of s) each_plane (from_to s.lo.z s.hi.z)
    ∙ ap (λ (n : ℕ). (width_of s * height_of s) * n) (length-from_to s.lo.z s.hi.z)
  where
    plane : ℤ → List Index
    plane z = flat_map (λ y. row_indexes s y z) (from_to s.lo.y s.hi.y)

    each_plane : (z : ℤ) → length (plane z) ≡ width_of s * height_of s
    each_plane z =
        length_pieces (λ y. row_indexes s y z) (width_of s) (λ y. length-map (from_to s.lo.x s.hi.x) (λ x. index x y z) ∙ length-from_to s.lo.x s.hi.x)
        (from_to s.lo.y s.hi.y)
        ∙ ap (λ (n : ℕ). width_of s * n) (length-from_to s.lo.y s.hi.y)

-- ---- at most eight times as many

eightfold : (a b c : ℕ) → ((2 * a) * (2 * b)) * (2 * c) ≡ 8 * ((a * b) * c)
eightfold a b c = omega arith

-- on each axis a span has at most one index more than the cells of a box
record IsWithin (s : Span) (b : BoxLine) : Type 0 where
  x : width_of s ≤ width_of (cells_of b) + 1
  y : height_of s ≤ height_of (cells_of b) + 1
  z : depth_of s ≤ depth_of (cells_of b) + 1

some_gap : (low high : ℕ) → low < high → 1 ≤ int_gap (pos low) (pos high)
some_gap low high proper = omega (arith, ints)

few_within : (s : Span) (b : BoxLine) → IsProper b → IsWithin s b → length (indexes_of (cells_of b)) ≤ 262144 → length (indexes_of s) ≤ 2097152
few_within s b proper on few =
    let cells = cells_of b in
    let wide : width_of s ≤ 2 * width_of cells = omega (arith, on.x, some_gap (slice_index b.lo 0) (slice_index b.hi 0) (proper 0 (omega arith))) in
    let high : height_of s ≤ 2 * height_of cells = omega (arith, on.y, some_gap (slice_index b.lo 1) (slice_index b.hi 1) (proper 1 (omega arith))) in
    let deep : depth_of s ≤ 2 * depth_of cells = omega (arith, on.z, some_gap (slice_index b.lo 2) (slice_index b.hi 2) (proper 2 (omega arith))) in
    let room : (width_of s * height_of s) * depth_of s ≤ ((2 * width_of cells) * (2 * height_of cells)) * (2 * depth_of cells) =
    mul-le-mul (mul-le-mul wide high) deep in
    omega (arith, length-indexes s, length-indexes cells, eightfold (width_of cells) (height_of cells) (depth_of cells), room, few)

-- ---- the box of a level

pub record HasBox (l : Level) (b : BoxLine) : Type 0 where
  pub only : l.boxes ≡ b ∷ []
  pub proper : IsProper b
  pub few : length (indexes_of (cells_of b)) ≤ 262144

box_in : (p : Problem) (level : ℕ) (l : Level) → IsBoundedLevel p level l → (boxes : List BoxLine) → l.boxes ≡ boxes → length boxes ≡ 1 →
    (b : BoxLine) × HasBox l b
box_in p level l bounded [] are one = absurd (omega (arith, one))
box_in p level l bounded (b ∷ []) are one = (
  b,
  record {
    only = are;
    proper = All-head IsProper b [] (subst (All IsProper) are bounded.good.tiled.boxes);
    few =
        let cells : sum (map (λ (c : BoxLine). length (indexes_of (cells_of c))) (b ∷ [])) ≤ 262144 =
        subst (λ (boxes : List BoxLine). sum (map (λ (c : BoxLine). length (indexes_of (cells_of c))) boxes) ≤ 262144) are bounded.cells in
        omega (arith, cells);
  },
)
box_in p level l bounded (b ∷ (c ∷ rest)) are one = absurd (omega (arith, one))

pub box_at : (p : Problem) (level : ℕ) (l : Level) → IsBoundedLevel p level l → (b : BoxLine) × HasBox l b
box_at p level l bounded = box_in p level l bounded l.boxes refl bounded.limits.one_box

-- ---- index spaces, and what they have in common with another span

end_gap : (e : Bool) (low high : ℕ) → int_gap (pos low) (end_of e high) ≤ int_gap (pos low) (pos high) + 1
end_gap true low high = omega (arith, ints)
end_gap false low high = omega (arith, ints)

meet_gap : (a b c d : ℤ) → int_gap (int_max a c) (int_min b d) ≤ int_gap c d
meet_gap a b c d = grind (arith, ints)

meets_within : (s : Span) (c : Centring) (b : BoxLine) → IsWithin (meet_of s (space_of c b)) b
meets_within s c b = record {
  x = omega (
    arith,
    meet_gap s.lo.x s.hi.x (pos (slice_index b.lo 0)) (end_of (is_point_like c X) (slice_index b.hi 0)),
    end_gap (is_point_like c X) (slice_index b.lo 0) (slice_index b.hi 0),
  );
  y = omega (
    arith,
    meet_gap s.lo.y s.hi.y (pos (slice_index b.lo 1)) (end_of (is_point_like c Y) (slice_index b.hi 1)),
    end_gap (is_point_like c Y) (slice_index b.lo 1) (slice_index b.hi 1),
  );
  z = omega (
    arith,
    meet_gap s.lo.z s.hi.z (pos (slice_index b.lo 2)) (end_of (is_point_like c Z) (slice_index b.hi 2)),
    end_gap (is_point_like c Z) (slice_index b.lo 2) (slice_index b.hi 2),
  );
}

pub few_in_space : (p : Problem) (level : ℕ) (l : Level) → IsBoundedLevel p level l → (c : Centring) (s space : Span) → spaces_on c l ≡ space ∷ [] →
    length (indexes_of (meet_of s space)) ≤ 2097152
few_in_space p level l bounded c s space one =
    let box = box_at p level l bounded in
    let same : space_of c box.0 ≡ space = (let both : map (space_of c) (box.0 ∷ []) ≡ space ∷ [] = sym (ap (map (space_of c)) box.1.only) ∙ one in cc) in
    subst (λ (other : Span). length (indexes_of (meet_of s other)) ≤ 2097152) same
    (few_within (meet_of s (space_of c box.0)) box.0 box.1.proper (meets_within s c box.0) box.1.few)

-- ---- what a patch owns

-- the bounds of a patch lie within those of the box
record LiesAlong (q b : BoxLine) (axis : ℕ) : Type 0 where
  low : slice_index b.lo axis ≤ slice_index q.lo axis
  high : slice_index q.hi axis ≤ slice_index b.hi axis

module _ (q b : BoxLine) (proper : IsProper q) (inside : LiesIn (cells_of q) (cells_of b)) where
  low_corner : Index
  low_corner = index (pos (slice_index q.lo 0)) (pos (slice_index q.lo 1)) (pos (slice_index q.lo 2))

  high_corner : Index
  high_corner = index (pos (slice_index q.hi 0 - 1)) (pos (slice_index q.hi 1 - 1)) (pos (slice_index q.hi 2 - 1))

  along_axis : (axis : ℕ) → axis < 3 → is_between (pos (slice_index b.lo axis)) (pos (slice_index b.hi axis)) (pos (slice_index q.lo axis)) ≡ true →
      is_between (pos (slice_index b.lo axis)) (pos (slice_index b.hi axis)) (pos (slice_index q.hi axis - 1)) ≡ true → LiesAlong q b axis
  along_axis axis below first last =
      let from = bounds_of (slice_index b.lo axis) (slice_index b.hi axis) (slice_index q.lo axis) first in
      let to = bounds_of (slice_index b.lo axis) (slice_index b.hi axis) (slice_index q.hi axis - 1) last in
      let some = proper axis below in
      record { low = from.0; high = (let under = to.1 in omega (arith, under, some)) }

  at_low : (axis : ℕ) → axis < 3 → is_between (pos (slice_index q.lo axis)) (pos (slice_index q.hi axis)) (pos (slice_index q.lo axis)) ≡ true
  at_low axis below = let some = proper axis below in between (slice_index q.lo axis) (slice_index q.hi axis) (slice_index q.lo axis) (omega arith) some

  at_high : (axis : ℕ) → axis < 3 → is_between (pos (slice_index q.lo axis)) (pos (slice_index q.hi axis)) (pos (slice_index q.hi axis - 1)) ≡ true
  at_high axis below =
      let some = proper axis below in
      between (slice_index q.lo axis) (slice_index q.hi axis) (slice_index q.hi axis - 1) (omega (arith, some)) (omega (arith, some))

  lies_along : LiesAlong q b 0 × (LiesAlong q b 1 × LiesAlong q b 2)
  unfolding low_corner high_corner
  lies_along =
      let first = axes_of_inside (cells_of b) low_corner (inside low_corner
      (inside_on_axes (cells_of q) low_corner (record { x = at_low 0 (omega arith); y = at_low 1 (omega arith); z = at_low 2 (omega arith) }))) in
      let last = axes_of_inside (cells_of b) high_corner (inside high_corner
      (inside_on_axes (cells_of q) high_corner (record { x = at_high 0 (omega arith); y = at_high 1 (omega arith); z = at_high 2 (omega arith) }))) in
      (along_axis 0 (omega arith) first.x last.x, (along_axis 1 (omega arith) first.y last.y, along_axis 2 (omega arith) first.z last.z))

owned_gap : (q b : BoxLine) (axis : ℕ) (e : Bool) → LiesAlong q b axis →
    int_gap (pos (slice_index q.lo axis)) (end_of e (slice_index q.hi axis)) ≤ int_gap (pos (slice_index b.lo axis)) (pos (slice_index b.hi axis)) + 1
owned_gap q b axis e lies =
    let low = lies.low in
    let high = lies.high in
    let inner : int_gap (pos (slice_index q.lo axis)) (pos (slice_index q.hi axis)) ≤ int_gap (pos (slice_index b.lo axis)) (pos (slice_index b.hi axis)) =
    omega (arith, ints, low, high) in
    omega (arith, end_gap e (slice_index q.lo axis) (slice_index q.hi axis), inner)

reaching_within : (q b : BoxLine) (x y z : Bool) → IsProper q → LiesIn (cells_of q) (cells_of b) → IsWithin (reaching q x y z) b
reaching_within q b x y z proper inside =
    let lies = lies_along q b proper inside in
    record { x = owned_gap q b 0 x lies.0; y = owned_gap q b 1 y lies.1.0; z = owned_gap q b 2 z lies.1.1 }

one_of : (P : BoxLine → Type 0) (b : BoxLine) → Any P (b ∷ []) → P b
one_of P b (zero, c, below, here, holds) = subst P (sym here) holds
one_of P b (suc k, c, below, here, holds) = absurd (omega (arith, below))

pub few_owned : (p : Problem) (level : ℕ) (l : Level) → IsBoundedLevel p level l → (patch : ℕ) → patch < length l.patches → (c : Centring) →
    length (indexes_of (owned_span c l patch)) ≤ 2097152
few_owned p level l bounded patch below c =
    let box = box_at p level l bounded in
    let q = patch_at l patch in
    let proper : IsProper q = bounded.good.tiled.patches patch (record { line = 0; lo = []; hi = [] }) below in
    let among : Any (λ b. LiesIn (cells_of q) (cells_of b)) l.boxes = bounded.good.tiled.inside patch (record { line = 0; lo = []; hi = [] }) below in
    let inside : LiesIn (cells_of q) (cells_of box.0) =
    one_of (λ b. LiesIn (cells_of q) (cells_of b)) box.0 (subst (Any (λ b. LiesIn (cells_of q) (cells_of b))) box.1.only among) in
    few_within (owned_span c l patch) box.0 box.1.proper (reaching_within q box.0 _ _ _ proper inside) box.1.few
