-- The rows of a field as parts of its numbers.
use Rattle.std.proofs.Common.{◌≡◌, ◌≢◌, ◌∙◌, ◌≤◌, ◌<◌, ◌+◌, inl, inr, ℕ, ℤ, pos, ◌+ℤ◌, List, [], length, map, take, drop, get_or, true, false, Option, Some, None, refl, ap, sym, arith}
use Rattle.std.specs.Prelude.{◌↔◌, IsTrue, AllPairs, Contains, slice_get, slice_index_or, int_lt, position}
use Rattle.std.specs.Int.{int_gap}
use Rattle.std.specs.List.{position_or_len}
use Rattle.std.specs.Option.{ForSome, option_map_or, unwrap_or}
use Rattle.std.proofs.lemmas.Bool.{cases_lt, cases_Bool, le-ltb, and_cases, and_left, and_right, true≢false}
use Rattle.std.proofs.lemmas.Int.{ints}
use Rattle.std.proofs.lemmas.List.{length-take, length-drop, get_or-take, get_or-drop, get_or_default, get_or_past}
use Rattle.std.proofs.lemmas.List.Sums.{passes_at_first}
use Rattle.std.proofs.lemmas.Option.{slice_get-get_or}
use Rattle.std.proofs.lemmas.Simd.{map-map}
use Rattle.uts_geom.specs.declared.index.Index.{Index}
use Rattle.uts_geom.specs.declared.span.Span.{Span}
use Rattle.uts_geom.specs.Spans.{index, counted, is_between, is_inside, indexes_of, row_indexes, width_of}
use Rattle.uts_geom.specs.SameIndexes.{is_same_index, same_index_decides, position_of_index}
use Rattle.problem_types.specs.Lists.{centring_of}
use Rattle.problem_types.specs.Regions.{is_in_space, indexes_of as indexes_on_level}
use Rattle.problem_types.specs.declared.problem.Problem.{Problem}
use Rattle.whole_fields.specs.Stored.{number_among, number_of_field, blank_of}
use Rattle.whole_fields.specs.declared.warehouse.Warehouse.{Warehouse}
use Rattle.uts_model.specs.Spaces.{IsSpaceOn}
use Rattle.whole_fields.specs.Views.{number_in, number_along}
use Rattle.whole_fields.proofs.Among.{number_at_place}
use Rattle.whole_fields.proofs.Lists.{map_alike}
use Rattle.whole_fields.proofs.RowsTogether.{get_in_row, row_within}

pub along_none : (low outside x : ℤ) → number_along low [] outside x ≡ outside
unfolding number_along
along_none low outside x = elim (cases_Bool (int_lt x low)) [ inl before ↦ rw before refl | inr after ↦ rw after refl ]

before_it : (low high x : ℤ) → int_lt x low ≡ true → is_between low high x ≡ false
before_it low high x before = grind (arith, ints)

behind_it : (low high x : ℤ) → int_lt x low ≡ false → int_gap low high ≤ int_gap low x → is_between low high x ≡ false
behind_it low high x after past = grind (arith, ints)

reaches : (low x : ℤ) → int_lt x low ≡ false → low +ℤ pos (int_gap low x) ≡ x
reaches low x after = grind (arith, ints)

none_between : (low high x : ℤ) → is_between low high low ≡ false → is_between low high x ≡ false
none_between low high x none = grind (arith, ints)

-- a row whose first index lies outside the span lies outside it
pub row_outside : (s : Span) (y z : ℤ) → is_inside s (index s.lo.x y z) ≡ false → (x : ℤ) → is_inside s (index x y z) ≡ false
row_outside s y z outside x =
    elim (and_cases _ _ outside) [
      | inl none ↦ and_left _ _ (none_between s.lo.x s.hi.x x none)
      | inr other ↦ and_right _ _ other
    ]

module _ (s : Span) (holds : (i : Index) → Contains (indexes_of s) i ↔ IsTrue (is_inside s i)) where
  nowhere : (i : Index) → is_inside s i ≡ false → position (λ j. is_same_index i j) (indexes_of s) ≡ None
  nowhere i outside =
      let all = indexes_of s in
      let place = position_or_len (λ j. is_same_index i j) all in
      elim (cases_lt place (length all)) [
        | inl within ↦
            let found : i ≡ get_or all place i = (same_index_decides i (get_or all place i)).0 (passes_at_first (λ j. is_same_index i j) all i within) in
            let inside : is_inside s i ≡ true = (holds i).0 (place, within, sym found) in
            absurd (true≢false (sym inside ∙ outside))
        | inr past ↦ rw (le-ltb place (length all) past) refl
      ]

  pub number_outside : (numbers : List ℤ) (blank : ℤ) (i : Index) → is_inside s i ≡ false → number_in s numbers blank i ≡ blank
  unfolding number_in
  number_outside numbers blank i outside = rw (nowhere i outside) refl

  -- without numbers each index has the blank one
  pub number_of_none : (blank : ℤ) (i : Index) → number_in s [] blank i ≡ blank
  unfolding number_in
  number_of_none blank i = none (position (λ j. is_same_index i j) (indexes_of s))
    where
      none : (place : Option ℕ) → option_map_or (λ (k : ℕ). slice_index_or [] k blank) place blank ≡ blank
      none None = refl
      none (Some k) = refl

  module _ (once : AllPairs ◌≢◌ (indexes_of s)) (numbers : List ℤ) (blank : ℤ) (full : length numbers ≡ length (indexes_of s)) (begin : ℕ) (y z : ℤ)
      (first : slice_get (indexes_of s) begin ≡ Some (index s.lo.x y z)) where
    abbrev row : List ℤ
    row = take (width_of s) (drop begin numbers)

    length-part : length row ≡ width_of s
    length-part = omega (arith, length-take (width_of s) (drop begin numbers), length-drop begin numbers, row_within s begin y z first, full)

    number_inside : (k : ℕ) → k < width_of s → number_in s numbers blank (index (s.lo.x +ℤ pos k) y z) ≡ slice_index_or row k blank
    unfolding number_in
    number_inside k below =
        ap (λ (place : Option ℕ). option_map_or (λ (j : ℕ). slice_index_or numbers j blank) place blank)
        (position_of_index (indexes_of s) once (begin + k) (index (s.lo.x +ℤ pos k) y z) (get_in_row s begin y z first k below))
        ∙ sym (get_or-take (width_of s) (drop begin numbers) k blank below ∙ get_or-drop begin numbers k blank)

    pub row_is : (x : ℤ) → number_along s.lo.x row blank x ≡ number_in s numbers blank (index x y z)
    unfolding number_along
    row_is x =
        let a = int_gap s.lo.x x in
        elim (cases_Bool (int_lt x s.lo.x)) [
          | inl before ↦ rw before (sym (number_outside numbers blank (index x y z) (and_left _ _ (before_it s.lo.x s.hi.x x before))))
          | inr after ↦ elim (cases_lt a (width_of s)) [
            | inl within ↦
                rw after (sym (number_inside a within) ∙ ap (λ (n : ℤ). number_in s numbers blank (index n y z)) (reaches s.lo.x x after))
            | inr past ↦
                rw after (get_or_past row a blank (omega (arith, length-part))
                ∙ sym (number_outside numbers blank (index x y z) (and_left _ _ (behind_it s.lo.x s.hi.x x after past))))
          ]
        ]

-- the numbers along a row, from its first index on
pub along_row : (s : Span) (y z : ℤ) (along : ℤ → ℤ) (number : Index → ℤ) → ((x : ℤ) → along x ≡ number (index x y z)) →
    map (λ k. along (s.lo.x +ℤ pos k)) (counted 0 (width_of s)) ≡ map number (row_indexes s y z)
along_row s y z along number same =
    map_alike (λ k. along (s.lo.x +ℤ pos k)) (λ k. number (index (s.lo.x +ℤ pos k) y z)) (counted 0 (width_of s)) (λ k. same (s.lo.x +ℤ pos k))
    ∙ sym (map-map number (λ k. index (s.lo.x +ℤ pos k) y z) (counted 0 (width_of s)))
    ∙ ap (map number) (sym (map-map (λ (x : ℤ). index x y z) (λ k. s.lo.x +ℤ pos k) (counted 0 (width_of s))))

-- what a warehouse stores for a field, as the numbers of its index space
module _ (p : Problem) (w : Warehouse) (name level : ℕ) (s : Span) (space : IsSpaceOn p level (centring_of p name) s)
    (holds : (i : Index) → Contains (indexes_of s) i ↔ IsTrue (is_inside s i)) (once : AllPairs ◌≢◌ (indexes_of s)) (blank : ℤ) (is_blank : blank ≡ blank_of p w name) where
  stands : (numbers : List ℤ) → length numbers ≡ length (indexes_on_level p level (centring_of p name)) → (i : Index) → IsTrue (is_in_space p level (centring_of p name) i) →
      number_in s numbers blank i ≡ number_among (indexes_on_level p level (centring_of p name)) numbers i
  unfolding number_in
  stands numbers full i inside =
      let there = (holds i).1 (sym (space.inside i) ∙ inside) in
      let k = there.0 in
      let at : slice_get (indexes_of s) k ≡ Some i = slice_get-get_or (indexes_of s) k i there.1 ∙ ap (λ (j : Index). Some j) there.2 in
      let within : k < length numbers = omega (arith, full, ap length space.indexes, there.1) in
      ap (λ (place : Option ℕ). option_map_or (λ (j : ℕ). slice_index_or numbers j blank) place blank) (position_of_index (indexes_of s) once k i at)
      ∙ get_or_default numbers k blank (pos 0) within
      ∙ sym (number_at_place (indexes_of s) once numbers k i at)
      ∙ ap (λ (indexes : List Index). number_among indexes numbers i) (sym space.indexes)

  pub number_stored : (stored : Option (List ℤ)) → ForSome stored (λ numbers. length numbers ≡ length (indexes_on_level p level (centring_of p name))) → (i : Index) →
      number_in s (unwrap_or stored []) blank i ≡ number_of_field p w name level stored i
  number_stored None full i = number_of_none s holds blank i ∙ is_blank
  number_stored (Some numbers) full i =
      elim (cases_Bool (is_in_space p level (centring_of p name) i)) [
        | inl inside ↦ rw inside (stands numbers (full numbers refl) i inside)
        | inr outside ↦ rw outside (number_outside s holds numbers blank i (sym (space.inside i) ∙ outside) ∙ is_blank)
      ]
