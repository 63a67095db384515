-- Spans as sets of indexes.
use Rattle.std.proofs.Common.{◌≡◌, ◌≢◌, ◌∙◌, ◌<◌, ◌+◌, ◌*◌, ◌/◌, ◌%◌, ℕ, ℤ, pos, ◌+ℤ◌, length, ap, sym, arith, true, subst}
use Rattle.std.specs.Prelude.{◌↔◌, IsTrue, All, AllPairs, Contains, slice_get, slice_index_or}
use Rattle.std.specs.Int.{int_gap}
use Rattle.std.specs.List.{flat_map}
use Rattle.std.proofs.lemmas.Bool.{and_from}
use Rattle.std.proofs.lemmas.Option.{slice_get_within, get_or_from_slice_get}
use Rattle.std.proofs.lemmas.List.Elements.{All-map, All-contains}
use Rattle.uts_geom.specs.declared.index.Index.{Index}
use Rattle.uts_geom.specs.declared.span.Span.{Span}
use Rattle.uts_geom.specs.Spans.{index, is_between, is_inside, from_to, row_indexes, indexes_of, width_of, height_of, depth_of}
use Rattle.uts_geom.specs.Pieces.{All-pieces, split_below}
use Rattle.uts_geom.specs.Places.{length-from_to, get-from_to, between_above, length-indexes, get-indexes, get-inside, gap_of_sum}

-- the numbers of a range lie in it
All-between : (low high : ℤ) → All (λ n. is_between low high n ≡ true) (from_to low high)
All-between low high k d below =
    let place : k < int_gap low high = omega (arith, length-from_to low high) in
    let at : slice_index_or (from_to low high) k d ≡ low +ℤ pos k = get_or_from_slice_get (from_to low high) k (low +ℤ pos k) d (get-from_to low high k place) in
    subst (λ (n : ℤ). is_between low high n ≡ true) (sym at) (between_above low high k place)

All-inside : (s : Span) → All (λ i. is_inside s i ≡ true) (indexes_of s)
All-inside s =
    let In : Index → Type 0 = λ i. is_inside s i ≡ true in
    All-pieces In (λ z. flat_map (λ y. row_indexes s y z) (from_to s.lo.y s.hi.y)) (from_to s.lo.z s.hi.z) (λ k d in_z.
    let on_z = All-between s.lo.z s.hi.z k d in_z in
    All-pieces In (λ y. row_indexes s y (slice_index_or (from_to s.lo.z s.hi.z) k d)) (from_to s.lo.y s.hi.y) (λ j e in_y.
    let on_y = All-between s.lo.y s.hi.y j e in_y in
    All-map In (λ x. index x (slice_index_or (from_to s.lo.y s.hi.y) j e) (slice_index_or (from_to s.lo.z s.hi.z) k d)) (from_to s.lo.x s.hi.x) (λ i f in_x.
    and_from _ _ (All-between s.lo.x s.hi.x i f in_x) (and_from _ _ on_y on_z))))

pub holds : (s : Span) (i : Index) → Contains (indexes_of s) i ↔ IsTrue (is_inside s i)
holds s i = (
  λ h. All-contains (λ j. is_inside s j ≡ true) (indexes_of s) i (All-inside s) h,
  λ h.
      let at = get-inside s i h in
      let place = int_gap s.lo.x i.x + width_of s * (int_gap s.lo.y i.y + height_of s * int_gap s.lo.z i.z) in
      (place, slice_get_within (indexes_of s) place i at, get_or_from_slice_get (indexes_of s) place i i at),
)

-- the place of an index, from the index
place_of : Span → Index → ℕ
place_of s i = int_gap s.lo.x i.x + width_of s * (int_gap s.lo.y i.y + height_of s * int_gap s.lo.z i.z)

at_its_place : (s : Span) (n : ℕ) (d : Index) → n < length (indexes_of s) → place_of s (slice_index_or (indexes_of s) n d) ≡ n
unfolding place_of
at_its_place s n d below =
    let all : n < width_of s * (height_of s * depth_of s) = omega (arith, length-indexes s) in
    let on_x = split_below n (width_of s) (height_of s * depth_of s) all in
    let m = n / width_of s in
    let on_y = split_below m (height_of s) (depth_of s) on_x.1 in
    let a = n % width_of s in
    let b = m % height_of s in
    let c = m / height_of s in
    let found = get-indexes s a b c on_x.0 on_y.0 on_y.1 in
    let at : n ≡ a + width_of s * (b + height_of s * c) = on_x.2 ∙ ap (λ (k : ℕ). a + width_of s * k) on_y.2 in
    let is : slice_index_or (indexes_of s) n d ≡ index (s.lo.x +ℤ pos a) (s.lo.y +ℤ pos b) (s.lo.z +ℤ pos c) =
    get_or_from_slice_get (indexes_of s) n _ d (ap (slice_get (indexes_of s)) at ∙ found) in
    ap (place_of s) is
    ∙ ap (λ (k : ℕ). k + width_of s * (int_gap s.lo.y (s.lo.y +ℤ pos b) + height_of s * int_gap s.lo.z (s.lo.z +ℤ pos c))) (gap_of_sum s.lo.x a)
    ∙ ap (λ (k : ℕ). a + width_of s * (k + height_of s * int_gap s.lo.z (s.lo.z +ℤ pos c))) (gap_of_sum s.lo.y b)
    ∙ ap (λ (k : ℕ). a + width_of s * (b + height_of s * k)) (gap_of_sum s.lo.z c)
    ∙ sym at

pub stand_once : (s : Span) → AllPairs ◌≢◌ (indexes_of s)
stand_once s i j d before below =
    λ same. absurd (let e : i ≡ j = sym (at_its_place s i d (omega arith)) ∙ ap (place_of s) same ∙ at_its_place s j d below in omega arith)
