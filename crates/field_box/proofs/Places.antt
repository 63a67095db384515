-- Where the indexes of a span stand.
use Rattle.std.proofs.Common.{◌≡◌, ◌≢◌, ◌∙◌, ◌<◌, ◌+◌, ◌-◌, inl, inr, ℕ, zero, suc, ℤ, pos, ◌+ℤ◌, List, [], ◌∷◌, ◌++◌, length, true, Option, Some, ap, sym, arith}
use Rattle.std.specs.Prelude.{◌↔◌, IsTrue, AllPairs, Contains, slice_get, slice_index_or, int_lt}
use Rattle.std.specs.Int.{int_gap}
use Rattle.std.specs.List.{flat_map}
use Rattle.std.specs.Option.{option_map_or}
use Rattle.std.proofs.lemmas.Bool.{cases_lt}
use Rattle.std.proofs.lemmas.Int.{ints}
use Rattle.std.proofs.lemmas.Option.{same_Some, slice_get_within, slice_get-get_or}
use Rattle.uts_geom.specs.declared.index.Index.{Index}
use Rattle.uts_geom.specs.declared.span.Span.{Span}
use Rattle.uts_geom.specs.Spans.{index, from_to, is_inside, row_indexes, indexes_of, width_of}
use Rattle.uts_geom.specs.Counting.{get_left, get_right}
use Rattle.uts_geom.specs.Places.{get-row, length-row}
use Rattle.uts_geom.specs.SameIndexes.{position_of_index}
use Rattle.field_box.specs.Fields.{number_at}

module _ (s : Span) (once : AllPairs ◌≢◌ (indexes_of s)) where
  pub number_at_place : (numbers : List ℤ) (k : ℕ) (i : Index) → slice_get (indexes_of s) k ≡ Some i →
      number_at (record { span = s; numbers = numbers }) i ≡ slice_index_or numbers k (pos 0)
  unfolding number_at
  number_at_place numbers k i at =
      ap (λ (place : Option ℕ). option_map_or (λ (j : ℕ). slice_index_or numbers j (pos 0)) place (pos 0)) (position_of_index (indexes_of s) once k i at)

  pub one_place : (j k : ℕ) (i : Index) → slice_get (indexes_of s) j ≡ Some i → slice_get (indexes_of s) k ≡ Some i → j ≡ k
  one_place j k i here there = same_Some j k (sym (position_of_index (indexes_of s) once j i here) ∙ position_of_index (indexes_of s) once k i there)

-- an index inside a span has a place
pub place_inside : (s : Span) → ((i : Index) → Contains (indexes_of s) i ↔ IsTrue (is_inside s i)) → (i : Index) → IsTrue (is_inside s i) →
    (k : ℕ) × (slice_get (indexes_of s) k ≡ Some i)
place_inside s holds i inside =
    let there = (holds i).1 inside in
    (there.0, slice_get-get_or (indexes_of s) there.0 i there.1 ∙ ap (λ (j : Index). Some j) there.2)

below_width : (low high x : ℤ) (k : ℕ) → low +ℤ pos k ≡ x → int_lt (x +ℤ pos 1) high ≡ true → k + 1 < int_gap low high
below_width low high x k at below = grind (arith, ints)

one_on : (low x : ℤ) (k : ℕ) → low +ℤ pos k ≡ x → low +ℤ pos (k + 1) ≡ x +ℤ pos 1
one_on low x k at = grind (arith, ints)

module _ (s : Span) where
  -- behind an index stands the next one of its row
  abbrev HasNext : List Index → Type 0
  HasNext indexes = (k : ℕ) (i : Index) → slice_get indexes k ≡ Some i → int_lt (i.x +ℤ pos 1) s.hi.x ≡ true →
      slice_get indexes (k + 1) ≡ Some (index (i.x +ℤ pos 1) i.y i.z)

  next_of_none : HasNext []
  next_of_none k i at below = absurd cc

  next_in_row : (y z : ℤ) → HasNext (row_indexes s y z)
  next_in_row y z k i at below =
      let row = row_indexes s y z in
      let within : k < width_of s = omega (arith, slice_get_within row k i at, length-row s y z) in
      let same : index (s.lo.x +ℤ pos k) y z ≡ i = same_Some _ _ (sym (get-row s y z k within) ∙ at) in
      let here : s.lo.x +ℤ pos k ≡ i.x = ap (λ (j : Index). j.x) same in
      get-row s y z (k + 1) (below_width s.lo.x s.hi.x i.x k here below)
      ∙ ap (λ (x : ℤ). Some (index x y z)) (one_on s.lo.x i.x k here)
      ∙ ap (λ (j : Index). Some (index (i.x +ℤ pos 1) j.y j.z)) same

  next_in_both : (front back : List Index) → HasNext front → HasNext back → HasNext (front ++ back)
  next_in_both front back in_front in_back k i at below =
      elim (cases_lt k (length front)) [
        | inl early ↦
            let next = in_front k i (sym (get_left front back k early) ∙ at) below in
            get_left front back (k + 1) (slice_get_within front (k + 1) _ next) ∙ next
        | inr late ↦
            let j = k - length front in
            let next = in_back j i (sym (get_right front back k j (omega arith)) ∙ at) below in
            get_right front back (k + 1) (j + 1) (omega arith) ∙ next
      ]

  next_in_all : {A : Type 0} (f : A → List Index) → ((a : A) → HasNext (f a)) → (items : List A) → HasNext (flat_map f items)
  next_in_all f each [] = next_of_none
  next_in_all f each (a ∷ items) = next_in_both (f a) (flat_map f items) (each a) (next_in_all f each items)

  next_index : HasNext (indexes_of s)
  next_index =
      next_in_all (λ (z : ℤ). flat_map (λ (y : ℤ). row_indexes s y z) (from_to s.lo.y s.hi.y))
      (λ z. next_in_all (λ (y : ℤ). row_indexes s y z) (λ y. next_in_row y z) (from_to s.lo.y s.hi.y)) (from_to s.lo.z s.hi.z)

  begins_there : (x : ℤ) → x ≡ x +ℤ pos 0
  begins_there x = grind (arith, ints)

  less_far : (x high : ℤ) (k : ℕ) → int_lt (x +ℤ pos (suc k)) high ≡ true → int_lt (x +ℤ pos k) high ≡ true
  less_far x high k below = grind (arith, ints)

  more_far : (x high : ℤ) (k : ℕ) → int_lt (x +ℤ pos (suc k)) high ≡ true → int_lt ((x +ℤ pos k) +ℤ pos 1) high ≡ true
  more_far x high k below = grind (arith, ints)

  then_one : (x : ℤ) (k : ℕ) → (x +ℤ pos k) +ℤ pos 1 ≡ x +ℤ pos (suc k)
  then_one x k = grind (arith, ints)

  -- the indexes of a row stand one after another
  pub places_along : (begin : ℕ) (first : Index) → slice_get (indexes_of s) begin ≡ Some first → (k : ℕ) → int_lt (first.x +ℤ pos k) s.hi.x ≡ true →
      slice_get (indexes_of s) (begin + k) ≡ Some (index (first.x +ℤ pos k) first.y first.z)
  places_along begin first at zero below =
      ap (slice_get (indexes_of s)) (let e : begin + zero ≡ begin = omega arith in e) ∙ at
      ∙ ap (λ (x : ℤ). Some (index x first.y first.z)) (begins_there first.x)
  places_along begin first at (suc k) below =
      ap (slice_get (indexes_of s)) (let e : begin + suc k ≡ begin + k + 1 = omega arith in e)
      ∙ next_index (begin + k) (index (first.x +ℤ pos k) first.y first.z) (places_along begin first at k (less_far first.x s.hi.x k below)) (more_far first.x s.hi.x k below)
      ∙ ap (λ (x : ℤ). Some (index x first.y first.z)) (then_one first.x k)
