-- The indexes and the rows of a span by place.
use Rattle.std.proofs.Common.{◌≡◌, ◌∙◌, ◌≤◌, ◌<◌, ◌+◌, ◌*◌, ℕ, ℤ, pos, ◌+ℤ◌, List, [], ◌∷◌, length, ap, refl, arith, Some, true, false}
use Rattle.std.specs.Prelude.{slice_get, ◌&&◌, int_lt}
use Rattle.std.specs.Int.{int_gap}
use Rattle.std.specs.List.{flat_map}
use Rattle.std.specs.Option.{option_map}
use Rattle.std.proofs.lemmas.Option.{slice_get-map}
use Rattle.std.proofs.lemmas.List.{length-map}
use Rattle.std.proofs.Math.Nat.{mul-le-mul_left}
use Rattle.std.proofs.lemmas.Int.{ints}
use Rattle.std.proofs.lemmas.Bool.{and_parts}
use Rattle.uts_geom.specs.declared.index.Index.{Index}
use Rattle.uts_geom.specs.declared.span.Span.{Span}
use Rattle.uts_geom.specs.Spans.{index, is_between, is_inside, counted, from_to, by_rows, row_indexes, indexes_of, all_rows, rows_of, width_of, height_of, depth_of}
use Rattle.uts_geom.specs.Counting.{length-counted, get-counted}
use Rattle.uts_geom.specs.Pieces.{length-pieces, get-pieces}

pub length-from_to : (low high : ℤ) → length (from_to low high) ≡ int_gap low high
length-from_to low high = length-map (counted 0 (int_gap low high)) (λ k. low +ℤ pos k) ∙ length-counted 0 (int_gap low high)

pub get-from_to : (low high : ℤ) (k : ℕ) → k < int_gap low high → slice_get (from_to low high) k ≡ Some (low +ℤ pos k)
get-from_to low high k below =
    slice_get-map (λ (j : ℕ). low +ℤ pos j) (counted 0 (int_gap low high)) k
    ∙ ap (option_map (λ (j : ℕ). low +ℤ pos j)) (get-counted 0 (int_gap low high) k below)
    ∙ ap (λ (j : ℕ). Some (low +ℤ pos j)) (let e : 0 + k ≡ k = omega arith in e)

-- a number between two others lies so far above the lower one
pub gap_below : (low high n : ℤ) → is_between low high n ≡ true → int_gap low n < int_gap low high
gap_below low high n between = grind (arith, ints)

pub gap_reaches : (low high n : ℤ) → is_between low high n ≡ true → low +ℤ pos (int_gap low n) ≡ n
gap_reaches low high n between = grind (arith, ints)

pub between_above : (low high : ℤ) (k : ℕ) → k < int_gap low high → is_between low high (low +ℤ pos k) ≡ true
between_above low high k below = grind (arith, ints)

pub length-row : (s : Span) (y z : ℤ) → length (row_indexes s y z) ≡ width_of s
length-row s y z = length-map (from_to s.lo.x s.hi.x) (λ x. index x y z) ∙ length-from_to s.lo.x s.hi.x

pub get-row : (s : Span) (y z : ℤ) (a : ℕ) → a < width_of s → slice_get (row_indexes s y z) a ≡ Some (index (s.lo.x +ℤ pos a) y z)
get-row s y z a below =
    slice_get-map (λ (x : ℤ). index x y z) (from_to s.lo.x s.hi.x) a ∙ ap (option_map (λ (x : ℤ). index x y z)) (get-from_to s.lo.x s.hi.x a below)

-- rows of one length, by place
module _ {A : Type 0} (s : Span) (row : ℤ → ℤ → List A) (w : ℕ) (even : (y z : ℤ) → length (row y z) ≡ w) where
  length-plane : (z : ℤ) → length (flat_map (λ y. row y z) (from_to s.lo.y s.hi.y)) ≡ w * height_of s
  length-plane z = length-pieces (λ y. row y z) w (λ y. even y z) (from_to s.lo.y s.hi.y) ∙ ap (λ n. w * n) (length-from_to s.lo.y s.hi.y)

  pub length-by_rows : length (by_rows s row) ≡ w * height_of s * depth_of s
  length-by_rows =
      length-pieces (λ z. flat_map (λ y. row y z) (from_to s.lo.y s.hi.y)) (w * height_of s) length-plane (from_to s.lo.z s.hi.z)
      ∙ ap (λ n. w * height_of s * n) (length-from_to s.lo.z s.hi.z)

  pub get-by_rows : (a b c : ℕ) → a < w → b < height_of s → c < depth_of s → a + w * b < w * height_of s →
      slice_get (by_rows s row) ((a + w * b) + w * height_of s * c) ≡ slice_get (row (s.lo.y +ℤ pos b) (s.lo.z +ℤ pos c)) a
  get-by_rows a b c in_x in_y in_z in_plane =
      get-pieces (λ z. flat_map (λ y. row y z) (from_to s.lo.y s.hi.y)) (w * height_of s) length-plane (from_to s.lo.z s.hi.z) c (a + w * b) (s.lo.z +ℤ pos c) (get-from_to s.lo.z s.hi.z c in_z) in_plane
      ∙ get-pieces (λ y. row y (s.lo.z +ℤ pos c)) w (λ y. even y (s.lo.z +ℤ pos c)) (from_to s.lo.y s.hi.y) b a (s.lo.y +ℤ pos b) (get-from_to s.lo.y s.hi.y b in_y) in_x

pub length-indexes : (s : Span) → length (indexes_of s) ≡ width_of s * (height_of s * depth_of s)
length-indexes s = length-by_rows s (row_indexes s) (width_of s) (length-row s) ∙ omega arith

length-all_rows : (s : Span) → length (all_rows s) ≡ height_of s * depth_of s
length-all_rows s = length-by_rows s (λ y z. (y, z) ∷ []) 1 (λ y z. refl) ∙ omega arith

pub length-rows : (s : Span) → int_lt s.lo.x s.hi.x ≡ true → length (rows_of s) ≡ height_of s * depth_of s
length-rows s some = rw some (length-all_rows s)

pub length-no_rows : (s : Span) → int_lt s.lo.x s.hi.x ≡ false → length (rows_of s) ≡ 0
length-no_rows s none = rw none refl

-- the place of a row in its plane
in_plane : (a w b h : ℕ) → a < w → b < h → a + w * b < w * h
in_plane a w b h in_x in_y = let whole : w * (b + 1) ≤ w * h = mul-le-mul_left w (omega arith) in omega (arith, whole)

pub get-indexes : (s : Span) (a b c : ℕ) → a < width_of s → b < height_of s → c < depth_of s →
    slice_get (indexes_of s) (a + width_of s * (b + height_of s * c)) ≡ Some (index (s.lo.x +ℤ pos a) (s.lo.y +ℤ pos b) (s.lo.z +ℤ pos c))
get-indexes s a b c in_x in_y in_z =
    ap (slice_get (indexes_of s)) (let e : a + width_of s * (b + height_of s * c) ≡ (a + width_of s * b) + width_of s * height_of s * c = omega arith in e)
    ∙ get-by_rows s (row_indexes s) (width_of s) (length-row s) a b c in_x in_y in_z (in_plane a (width_of s) b (height_of s) in_x in_y)
    ∙ get-row s (s.lo.y +ℤ pos b) (s.lo.z +ℤ pos c) a in_x

pub get-all_rows : (s : Span) (b c : ℕ) → b < height_of s → c < depth_of s →
    slice_get (all_rows s) (b + height_of s * c) ≡ Some (s.lo.y +ℤ pos b, s.lo.z +ℤ pos c)
get-all_rows s b c in_y in_z =
    ap (slice_get (all_rows s)) (let e : b + height_of s * c ≡ (0 + 1 * b) + 1 * height_of s * c = omega arith in e)
    ∙ get-by_rows s (λ y z. (y, z) ∷ []) 1 (λ y z. refl) 0 b c (omega arith) in_y in_z (omega arith)

-- an index of a span stands at its place
pub get-inside : (s : Span) (i : Index) → is_inside s i ≡ true →
    slice_get (indexes_of s) (int_gap s.lo.x i.x + width_of s * (int_gap s.lo.y i.y + height_of s * int_gap s.lo.z i.z)) ≡ Some i
get-inside s i inside =
    let on_x = and_parts (is_between s.lo.x s.hi.x i.x) (is_between s.lo.y s.hi.y i.y && is_between s.lo.z s.hi.z i.z) inside in
    let on_y = and_parts (is_between s.lo.y s.hi.y i.y) (is_between s.lo.z s.hi.z i.z) on_x.1 in
    get-indexes s (int_gap s.lo.x i.x) (int_gap s.lo.y i.y) (int_gap s.lo.z i.z)
    (gap_below s.lo.x s.hi.x i.x on_x.0) (gap_below s.lo.y s.hi.y i.y on_y.0) (gap_below s.lo.z s.hi.z i.z on_y.1)
    ∙ ap (λ (x : ℤ). Some (index x (s.lo.y +ℤ pos (int_gap s.lo.y i.y)) (s.lo.z +ℤ pos (int_gap s.lo.z i.z)))) (gap_reaches s.lo.x s.hi.x i.x on_x.0)
    ∙ ap (λ (y : ℤ). Some (index i.x y (s.lo.z +ℤ pos (int_gap s.lo.z i.z)))) (gap_reaches s.lo.y s.hi.y i.y on_y.0)
    ∙ ap (λ (z : ℤ). Some (index i.x i.y z)) (gap_reaches s.lo.z s.hi.z i.z on_y.1)

-- a number above another by so many lies so far above it
pub gap_of_sum : (low : ℤ) (k : ℕ) → int_gap low (low +ℤ pos k) ≡ k
gap_of_sum low k = grind (arith, ints)
