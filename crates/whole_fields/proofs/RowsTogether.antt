-- The indexes of each row of a span stand together.
use Rattle.std.proofs.Common.{◌≡◌, ◌∙◌, ◌≤◌, ◌<◌, ◌+◌, ◌-◌, inl, inr, ℕ, ℤ, pos, ◌+ℤ◌, List, [], ◌∷◌, ◌++◌, length, take, drop, get_or, Some, ap, sym, arith}
use Rattle.std.specs.Prelude.{slice_get}
use Rattle.std.specs.Int.{int_gap}
use Rattle.std.specs.List.{flat_map}
use Rattle.std.specs.Option.{option_map}
use Rattle.std.proofs.lemmas.Bool.{cases_lt}
use Rattle.std.proofs.lemmas.Int.{ints}
use Rattle.std.proofs.lemmas.List.{length-map, length-take, length-drop, get_or-take, get_or-drop, take_all, take-append-le, drop-append-le}
use Rattle.std.proofs.lemmas.Option.{same_Some, slice_get-map, slice_get_within, slice_get-get_or, get_or_from_slice_get}
use Rattle.uts_geom.specs.declared.index.Index.{Index}
use Rattle.uts_geom.specs.declared.span.Span.{Span}
use Rattle.uts_geom.specs.Spans.{index, counted, from_to, row_indexes, indexes_of, width_of}
use Rattle.uts_geom.specs.Counting.{get_left, get_right, length-counted, get-counted}
use Rattle.uts_geom.specs.Places.{get-row, length-row}
use Rattle.whole_fields.proofs.Lists.{drop_right}

module _ (s : Span) where
  -- where the first index of a row stands, the row begins
  abbrev HasWholeRows : List Index → Type 0
  HasWholeRows indexes = (k : ℕ) (y z : ℤ) → slice_get indexes k ≡ Some (index s.lo.x y z) → take (width_of s) (drop k indexes) ≡ row_indexes s y z

  no_rows : HasWholeRows []
  no_rows k y z first = absurd cc

  one_row : (y z : ℤ) → HasWholeRows (row_indexes s y z)
  one_row y z k a b first =
      let row = row_indexes s y z in
      let within : k < width_of s = omega (arith, slice_get_within row k (index s.lo.x a b) first, length-row s y z) in
      let same : index (s.lo.x +ℤ pos k) y z ≡ index s.lo.x a b = same_Some _ _ (sym (get-row s y z k within) ∙ first) in
      let at_begin : s.lo.x +ℤ pos k ≡ s.lo.x = ap (λ (i : Index). i.x) same in
      let begins : k ≡ 0 = omega (arith, ints, at_begin) in
      rw begins (take_all (width_of s) row (omega (arith, length-row s y z)) ∙ ap (λ (i : Index). row_indexes s i.y i.z) same)

  joined_rows : (front back : List Index) → HasWholeRows front → HasWholeRows back → HasWholeRows (front ++ back)
  joined_rows front back in_front in_back k y z first =
      elim (cases_lt k (length front)) [
        | inl below ↦
            let row = in_front k y z (sym (get_left front back k below) ∙ first) in
            let long : width_of s ≤ length (drop k front) = omega (arith, length-take (width_of s) (drop k front), ap length row, length-row s y z) in
            ap (take (width_of s)) (drop-append-le k front back (omega arith)) ∙ take-append-le (width_of s) (drop k front) back long ∙ row
        | inr beyond ↦
            let j = k - length front in
            let at : k ≡ length front + j = omega arith in
            ap (take (width_of s)) (drop_right front back k j at) ∙ in_back j y z (sym (get_right front back k j at) ∙ first)
      ]

  all_rows : {A : Type 0} (f : A → List Index) → ((a : A) → HasWholeRows (f a)) → (items : List A) → HasWholeRows (flat_map f items)
  all_rows f each [] = no_rows
  all_rows f each (a ∷ items) = joined_rows (f a) (flat_map f items) (each a) (all_rows f each items)

  pub rows_together : (k : ℕ) (y z : ℤ) → slice_get (indexes_of s) k ≡ Some (index s.lo.x y z) →
      take (width_of s) (drop k (indexes_of s)) ≡ row_indexes s y z
  rows_together =
      all_rows (λ (z : ℤ). flat_map (λ (y : ℤ). row_indexes s y z) (from_to s.lo.y s.hi.y))
      (λ z. all_rows (λ (y : ℤ). row_indexes s y z) (λ y. one_row y z) (from_to s.lo.y s.hi.y)) (from_to s.lo.z s.hi.z)

  -- a row lies whole among the indexes, and its items one after another
  module _ (begin : ℕ) (y z : ℤ) (first : slice_get (indexes_of s) begin ≡ Some (index s.lo.x y z)) where
    pub row_within : begin + width_of s ≤ length (indexes_of s)
    row_within =
        let all = indexes_of s in
        omega (
          arith,
          length-take (width_of s) (drop begin all),
          length-drop begin all,
          ap length (rows_together begin y z first),
          length-row s y z,
          slice_get_within all begin (index s.lo.x y z) first,
        )

    pub get_in_row : (k : ℕ) → k < width_of s → slice_get (indexes_of s) (begin + k) ≡ Some (index (s.lo.x +ℤ pos k) y z)
    get_in_row k below =
        let all = indexes_of s in
        let d = index s.lo.x y z in
        slice_get-get_or all (begin + k) d (omega (arith, row_within))
        ∙ ap (λ (i : Index). Some i) (sym (get_or-drop begin all k d) ∙ sym (get_or-take (width_of s) (drop begin all) k d below)
        ∙ ap (λ (l : List Index). get_or l k d) (rows_together begin y z first)
        ∙ get_or_from_slice_get (row_indexes s y z) k _ d (get-row s y z k below))
