-- Numbers along x, read and written.
use Rattle.std.proofs.Common.{◌≡◌, ◌≢◌, ◌∙◌, ◌≤◌, ◌<◌, ◌+◌, ◌-◌, inl, inr, ℕ, zero, suc, ℤ, pos, ◌+ℤ◌, List, ◌++◌, length, map, take, drop, replicate, set, get_or, true, false, Some, refl, ap, sym, subst, arith}
use Rattle.std.specs.Prelude.{◌&&◌, ◌↔◌, IsTrue, AllPairs, Contains, slice_get, slice_index_or, int_lt, if◌then◌else◌}
use Rattle.std.specs.Int.{int_gap}
use Rattle.std.specs.Ordering.{int_eq}
use Rattle.std.proofs.lemmas.Bool.{cases_lt, cases_Bool, and_parts, and_from, and_left, false_from_ne_true, true≢false}
use Rattle.std.proofs.lemmas.Bool.Decides.{Decides-int_eq}
use Rattle.std.proofs.lemmas.Int.{ints}
use Rattle.std.proofs.lemmas.List.{ext_get_or, length-map, get_or-map, length-take, length-drop, get_or-take, get_or-drop, get_or-set_same, get_or-set_other, get_or-replicate}
use Rattle.std.proofs.lemmas.Option.{same_Some, slice_get_within, slice_get-get_or}
use Rattle.std.proofs.lemmas.Simd.{map-map}
use Rattle.uts_geom.specs.declared.index.Index.{Index}
use Rattle.uts_geom.specs.declared.span.Span.{Span}
use Rattle.uts_geom.specs.Spans.{index, counted, is_between, is_inside, indexes_of}
use Rattle.uts_geom.specs.ByPlace.{first_of_three, listed_by, second_of_three, third_of_three}
use Rattle.uts_geom.specs.SameIndexes.{is_same_index, same_index_decides}
use Rattle.field_box.specs.Fields.{NumberedSpan, HoldsAlong, IsField, along, is_along, number_at}
use Rattle.field_box.proofs.Places.{number_at_place, one_place, place_inside, places_along}

-- what lies inside a span lies below its high bound along x
below_high : (low high x : ℤ) → is_between low high x ≡ true → int_lt x high ≡ true
below_high low high x between = grind (arith, ints)

pub held_below : (s : Span) (first : Index) (count : ℕ) → HoldsAlong s first count → (k : ℕ) → k < count → int_lt (first.x +ℤ pos k) s.hi.x ≡ true
held_below s first count held k below =
    below_high s.lo.x s.hi.x (first.x +ℤ pos k)
    (and_parts (is_between s.lo.x s.hi.x (first.x +ℤ pos k)) (is_between s.lo.y s.hi.y first.y && is_between s.lo.z s.hi.z first.z) (held.each k below)).0

no_step : (x : ℤ) → x +ℤ pos 0 ≡ x
no_step x = grind (arith, ints)

-- where something is held, the first index is
pub first_inside : (s : Span) (first : Index) (count : ℕ) → HoldsAlong s first count → 0 < count → IsTrue (is_inside s first)
first_inside s first count held some = subst (λ (x : ℤ). IsTrue (is_inside s (index x first.y first.z))) (no_step first.x) (held.each 0 some)

-- an index that is along another
between_first : (x other : ℤ) (count : ℕ) → is_between x (x +ℤ pos count) other ≡ true → int_gap x other < count
between_first x other count between = grind (arith, ints)

reaches : (x other : ℤ) (count : ℕ) → is_between x (x +ℤ pos count) other ≡ true → x +ℤ pos (int_gap x other) ≡ other
reaches x other count between = grind (arith, ints)

on_between : (x : ℤ) (count k : ℕ) → k < count → is_between x (x +ℤ pos count) (x +ℤ pos k) ≡ true
on_between x count k below = grind (arith, ints)

gap_along : (x : ℤ) (k : ℕ) → int_gap x (x +ℤ pos k) ≡ k
gap_along x k = grind (arith, ints)

pub record LiesAlong (first : Index) (count : ℕ) (i : Index) : Type 0 where
  pub below : int_gap first.x i.x < count
  pub is : index (first.x +ℤ pos (int_gap first.x i.x)) first.y first.z ≡ i

pub lies_along : (first : Index) (count : ℕ) (i : Index) → is_along first count i ≡ true → LiesAlong first count i
lies_along first count i on =
    let on_x = and_parts (is_between first.x (first.x +ℤ pos count) i.x) (int_eq i.y first.y && int_eq i.z first.z) on in
    let on_y = and_parts (int_eq i.y first.y) (int_eq i.z first.z) on_x.1 in
    let y : i.y ≡ first.y = (Decides-int_eq i.y first.y).0 on_y.0 in
    let z : i.z ≡ first.z = (Decides-int_eq i.z first.z).0 on_y.1 in
    record {
      below = between_first first.x i.x count on_x.0;
      is = ap (λ (x : ℤ). index x first.y first.z) (reaches first.x i.x count on_x.0)
          ∙ ap (λ (n : ℤ). index i.x n first.z) (sym y) ∙ ap (λ (n : ℤ). index i.x i.y n) (sym z);
    }

pub is_along_here : (first : Index) (count k : ℕ) → k < count → is_along first count (index (first.x +ℤ pos k) first.y first.z) ≡ true
is_along_here first count k below =
    and_from _ _ (on_between first.x count k below)
    (and_from _ _ ((Decides-int_eq first.y first.y).1 refl) ((Decides-int_eq first.z first.z).1 refl))

nowhere_between : (x n : ℤ) → is_between x (x +ℤ pos 0) n ≡ false
nowhere_between x n = grind (arith, ints)

-- nothing was written
pub none_set : (f : NumberedSpan) (first : Index) (part : List ℤ) → length part ≡ 0 →
    IsField f.span (λ i. if is_along first (length part) i then slice_index_or part (int_gap first.x i.x) (pos 0) else number_at f i) f
none_set f first part none = record {
  span = refl;
  numbers = λ i inside.
      let off : is_along first (length part) i ≡ false =
      ap (λ (n : ℕ). is_along first n i) none ∙ and_left _ _ (nowhere_between first.x i.x) in
      rw off refl;
}

module _ (s : Span) (once : AllPairs ◌≢◌ (indexes_of s)) where
  -- the numbers of a stretch stand together
  module _ (numbers : List ℤ) (full : length numbers ≡ length (indexes_of s)) (begin : ℕ) (first : Index) (at : slice_get (indexes_of s) begin ≡ Some first) where
    pub stretch_fits : (count : ℕ) → HoldsAlong s first count → begin + count ≤ length numbers
    stretch_fits zero held = omega (arith, slice_get_within (indexes_of s) begin first at, full)
    stretch_fits (suc k) held =
        omega (
          arith,
          slice_get_within (indexes_of s) (begin + k) _ (places_along s begin first at k (held_below s first (suc k) held k (omega arith))),
          full,
        )

    pub stretch_read : (count : ℕ) → HoldsAlong s first count →
        take count (drop begin numbers) ≡ map (number_at (record { span = s; numbers = numbers })) (along first count)
    stretch_read count held =
        let f : NumberedSpan = record { span = s; numbers = numbers } in
        let part = take count (drop begin numbers) in
        let long : length part ≡ count = omega (arith, length-take count (drop begin numbers), length-drop begin numbers, stretch_fits count held) in
        listed_by (λ k. number_at f (index (first.x +ℤ pos k) first.y first.z)) count part (pos 0) long (λ k below.
        get_or-take count (drop begin numbers) k (pos 0) below ∙ get_or-drop begin numbers k (pos 0)
        ∙ sym (number_at_place s once numbers (begin + k) (index (first.x +ℤ pos k) first.y first.z) (places_along s begin first at k (held_below s first count held k below))))
        ∙ sym (map-map (number_at f) (λ k. index (first.x +ℤ pos k) first.y first.z) (counted 0 count))

  pub all_read : (numbers : List ℤ) → length numbers ≡ length (indexes_of s) → numbers ≡ map (number_at (record { span = s; numbers = numbers })) (indexes_of s)
  all_read numbers full =
      let f : NumberedSpan = record { span = s; numbers = numbers } in
      let all = indexes_of s in
      let d : Index = index (pos 0) (pos 0) (pos 0) in
      ext_get_or (pos 0) numbers (map (number_at f) all) (full ∙ sym (length-map all (number_at f))) (λ k below.
      let within : k < length all = omega (arith, full) in
      sym (number_at_place s once numbers k (get_or all k d) (slice_get-get_or all k d within))
      ∙ sym (get_or-map (number_at f) all k d (pos 0) within))

  module _ (holds : (i : Index) → Contains (indexes_of s) i ↔ IsTrue (is_inside s i)) where
    pub filled_with : (n : ℤ) → IsField s (λ i. n) (record { span = s; numbers = replicate (length (indexes_of s)) n })
    filled_with n = record {
      span = refl;
      numbers = λ i inside.
          let place = place_inside s holds i inside in
          number_at_place s once (replicate (length (indexes_of s)) n) place.0 i place.1
          ∙ get_or-replicate (length (indexes_of s)) place.0 n (pos 0) (slice_get_within (indexes_of s) place.0 i place.1);
    }

    pub one_set : (numbers : List ℤ) (k : ℕ) (i : Index) (n : ℤ) → length numbers ≡ length (indexes_of s) → slice_get (indexes_of s) k ≡ Some i →
        IsField s (λ j. if is_same_index i j then n else number_at (record { span = s; numbers = numbers }) j) (record { span = s; numbers = set numbers k n })
    one_set numbers k i n full at = record {
      span = refl;
      numbers = λ j inside.
          let place = place_inside s holds j inside in
          let within : k < length numbers = omega (arith, slice_get_within (indexes_of s) k i at, full) in
          number_at_place s once (set numbers k n) place.0 j place.1
          ∙ elim (cases_Bool (is_same_index i j)) [
            | inl same ↦
                let here : slice_get (indexes_of s) k ≡ Some j = at ∙ ap (λ (h : Index). Some h) ((same_index_decides i j).0 same) in
                rw (one_place s once place.0 k j place.1 here, same) (get_or-set_same numbers k n (pos 0) within)
            | inr other ↦
                let apart : place.0 ≢ k = λ e.
                let here : slice_get (indexes_of s) place.0 ≡ Some i = ap (slice_get (indexes_of s)) e ∙ at in
                true≢false (sym ((same_index_decides i j).1 (same_Some i j (sym here ∙ place.1))) ∙ other) in
                rw other (get_or-set_other numbers k place.0 n (pos 0) apart ∙ sym (number_at_place s once numbers place.0 j place.1))
          ];
    }

    module _ (numbers part : List ℤ) (full : length numbers ≡ length (indexes_of s)) (begin : ℕ) (first : Index)
        (at : slice_get (indexes_of s) begin ≡ Some first) (held : HoldsAlong s first (length part)) where
      abbrev joined : List ℤ
      joined = take begin numbers ++ (part ++ drop (begin + length part) numbers)

      length-front : length (take begin numbers) ≡ begin
      length-front = omega (arith, length-take begin numbers, stretch_fits numbers full begin first at (length part) held)

      -- an index with a place in the part is along its first one
      in_part : (k : ℕ) (i : Index) → k < length part → slice_get (indexes_of s) (begin + k) ≡ Some i →
          (is_along first (length part) i ≡ true) × (int_gap first.x i.x ≡ k)
      in_part k i below there =
          let same : index (first.x +ℤ pos k) first.y first.z ≡ i =
          same_Some _ _ (sym (places_along s begin first at k (held_below s first (length part) held k below)) ∙ there) in (
            ap (is_along first (length part)) (sym same) ∙ is_along_here first (length part) k below,
            ap (λ (j : Index). int_gap first.x j.x) (sym same) ∙ gap_along first.x k,
          )

      -- and the others are not
      not_in_part : (k : ℕ) (i : Index) → slice_get (indexes_of s) k ≡ Some i → ((j : ℕ) → j < length part → k ≡ begin + j → ⊥) →
          is_along first (length part) i ≡ false
      not_in_part k i there apart =
          false_from_ne_true _ (λ on.
          let lies = lies_along first (length part) i on in
          let j = int_gap first.x i.x in
          let here : slice_get (indexes_of s) (begin + j) ≡ Some i =
          places_along s begin first at j (held_below s first (length part) held j lies.below) ∙ ap (λ (h : Index). Some h) lies.is in
          apart j lies.below (one_place s once k (begin + j) i there here))

      kept : (k : ℕ) (i : Index) → slice_get (indexes_of s) k ≡ Some i → ((j : ℕ) → j < length part → k ≡ begin + j → ⊥) →
          get_or joined k (pos 0) ≡ get_or numbers k (pos 0) →
          get_or joined k (pos 0)
          ≡ (if is_along first (length part) i then slice_index_or part (int_gap first.x i.x) (pos 0) else number_at (record { span = s; numbers = numbers }) i)
      kept k i there apart same = rw (not_in_part k i there apart) (same ∙ sym (number_at_place s once numbers k i there))

      at_place : (k : ℕ) (i : Index) → slice_get (indexes_of s) k ≡ Some i →
          get_or joined k (pos 0)
          ≡ (if is_along first (length part) i then slice_index_or part (int_gap first.x i.x) (pos 0) else number_at (record { span = s; numbers = numbers }) i)
      at_place k i there =
          let front = take begin numbers in
          let back = drop (begin + length part) numbers in
          elim (cases_lt k begin) [
            | inl before ↦
                kept k i there (λ j below e. omega arith)
                (first_of_three front part back (pos 0) k (omega (arith, length-front)) ∙ get_or-take begin numbers k (pos 0) before)
            | inr after ↦ elim (cases_lt (k - begin) (length part)) [
              | inl within ↦
                  let j = k - begin in
                  let on = in_part j i within (ap (slice_get (indexes_of s)) (let e : begin + j ≡ k = omega arith in e) ∙ there) in
                  let found : get_or joined k (pos 0) ≡ get_or part j (pos 0) =
                  second_of_three front part back (pos 0) k (omega (arith, length-front)) (omega (arith, length-front))
                  ∙ ap (λ (n : ℕ). get_or part (k - n) (pos 0)) length-front in
                  rw (on.0, on.1) found
              | inr beyond ↦
                  kept k i there (λ j below e. omega arith)
                  (third_of_three front part back (pos 0) k (omega (arith, length-front)) (omega (arith, length-front))
                  ∙ get_or-drop (begin + length part) numbers (k - length front - length part) (pos 0)
                  ∙ ap (λ (n : ℕ). get_or numbers n (pos 0)) (omega (arith, length-front)))
            ]
          ]

      pub stretch_set : IsField s (λ i. if is_along first (length part) i
          then slice_index_or part (int_gap first.x i.x) (pos 0)
          else number_at (record { span = s; numbers = numbers }) i) (record { span = s; numbers = joined })
      stretch_set = record {
        span = refl;
        numbers = λ i inside.
            let place = place_inside s holds i inside in
            number_at_place s once joined place.0 i place.1 ∙ at_place place.0 i place.1;
      }
