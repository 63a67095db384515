-- Rows of numbers, filled from an x on.
use Rattle.std.proofs.Common.{◌≡◌, ◌∙◌, ◌≤◌, ◌<◌, ◌+◌, ◌-◌, inl, inr, ℕ, ℤ, pos, ◌+ℤ◌, min, List, ◌++◌, length, map, take, drop, replicate, get_or, true, false, refl, ap, sym, arith, length-append}
use Rattle.std.specs.Prelude.{int_lt}
use Rattle.std.specs.Int.{int_gap}
use Rattle.std.proofs.lemmas.Bool.{cases_lt}
use Rattle.std.proofs.lemmas.Int.{ints}
use Rattle.std.proofs.lemmas.List.{length-take, length-drop, length-replicate, get_or-take, get_or-drop, get_or_past}
use Rattle.uts_geom.specs.Spans.{counted}
use Rattle.uts_geom.specs.ByPlace.{first_of_three, listed_by, second_of_three, third_of_three}
use Rattle.whole_fields.specs.Views.{number_along}
use Rattle.whole_fields.proofs.Lists.{item_of_replicate}

-- where x stands in a row
before_low : (low from : ℤ) (k : ℕ) → k < int_gap from low → int_lt (from +ℤ pos k) low ≡ true
before_low low from k below = grind (arith, ints)

from_low : (low from : ℤ) (k : ℕ) → int_gap from low ≤ k → int_lt (from +ℤ pos k) low ≡ false
from_low low from k above = grind (arith, ints)

gap_from_low : (low from : ℤ) (k : ℕ) → int_gap from low ≤ k → int_gap low (from +ℤ pos k) ≡ int_gap low from + (k - int_gap from low)
gap_from_low low from k above = grind (arith, ints)

-- a row whose places before and behind its numbers hold the outside number
module _ (low from : ℤ) (numbers : List ℤ) (outside : ℤ) (n before skipped count : ℕ) (places_before : before ≡ min (int_gap from low) n)
    (numbers_before : skipped ≡ min (int_gap low from) (length numbers)) (copied : count ≡ min (length numbers - skipped) (n - before)) where
  abbrev front : List ℤ
  front = take before (replicate n outside)

  abbrev middle : List ℤ
  middle = take count (drop skipped numbers)

  abbrev back : List ℤ
  back = drop (before + length middle) (replicate n outside)

  length-front : length front ≡ before
  length-front = omega (arith, length-take before (replicate n outside), length-replicate n outside)

  length-middle : length middle ≡ count
  length-middle = omega (arith, length-take count (drop skipped numbers), length-drop skipped numbers)

  length-back : length back ≡ n - (before + count)
  length-back = omega (arith, length-drop (before + length middle) (replicate n outside), length-replicate n outside, length-middle)

  length-filled : length (front ++ (middle ++ back)) ≡ n
  length-filled = omega (arith, length-append front (middle ++ back), length-append middle back, length-front, length-middle, length-back)

  in_front : (k : ℕ) → k < n → k < before → get_or (front ++ (middle ++ back)) k outside ≡ number_along low numbers outside (from +ℤ pos k)
  unfolding number_along
  in_front k below within =
      first_of_three front middle back outside k (omega (arith, length-front))
      ∙ get_or-take before (replicate n outside) k outside within
      ∙ item_of_replicate n outside k
      ∙ rw (before_low low from k (omega arith)) refl

  in_middle : (k : ℕ) → k < n → before ≤ k → k - before < count → get_or (front ++ (middle ++ back)) k outside ≡ number_along low numbers outside (from +ℤ pos k)
  unfolding number_along
  in_middle k below after within =
      let a = k - before in
      let above : int_gap from low ≤ k = omega arith in
      let place : skipped + a ≡ int_gap low (from +ℤ pos k) = omega (arith, gap_from_low low from k above) in
      second_of_three front middle back outside k (omega (arith, length-front)) (omega (arith, length-front, length-middle))
      ∙ ap (λ (j : ℕ). get_or middle (k - j) outside) length-front
      ∙ get_or-take count (drop skipped numbers) a outside within
      ∙ get_or-drop skipped numbers a outside
      ∙ ap (λ (j : ℕ). get_or numbers j outside) place
      ∙ rw (from_low low from k above) refl

  in_back : (k : ℕ) → k < n → before ≤ k → count ≤ k - before → get_or (front ++ (middle ++ back)) k outside ≡ number_along low numbers outside (from +ℤ pos k)
  unfolding number_along
  in_back k below after beyond =
      let above : int_gap from low ≤ k = omega arith in
      let past : length numbers ≤ int_gap low (from +ℤ pos k) = omega (arith, gap_from_low low from k above) in
      let j = k - length front - length middle in
      third_of_three front middle back outside k (omega (arith, length-front)) (omega (arith, length-front, length-middle))
      ∙ get_or-drop (before + length middle) (replicate n outside) j outside
      ∙ item_of_replicate n outside (before + length middle + j)
      ∙ rw (from_low low from k above) (sym (get_or_past numbers (int_gap low (from +ℤ pos k)) outside past))

  pub filled_row : front ++ (middle ++ back) ≡ map (λ k. number_along low numbers outside (from +ℤ pos k)) (counted 0 n)
  filled_row =
      listed_by (λ k. number_along low numbers outside (from +ℤ pos k)) n (front ++ (middle ++ back)) outside length-filled (λ k below.
      elim (cases_lt k before) [
        | inl within ↦ in_front k below within
        | inr after ↦ elim (cases_lt (k - before) count) [
          | inl within ↦ in_middle k below after within
          | inr beyond ↦ in_back k below after beyond
        ]
      ])
