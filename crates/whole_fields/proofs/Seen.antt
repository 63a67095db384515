-- Coordinates brought into the range of numbers, as they are seen from what lies near.
use Rattle.std.proofs.Common.{◌≡◌, ◌∙◌, ◌≤◌, ◌<◌, ◌^◌, ◌⊎◌, inl, inr, ℕ, ℤ, pos, negsuc, ◌+ℤ◌, ◌-ℤ◌, List, length, Bool, true, false, w64, refl, ap, sym, arith}
use Rattle.std.specs.Prelude.{◌&&◌, ◌↔◌, IsTrue, Contains, int_lt, slice_index_or, unsigned_abs}
use Rattle.std.specs.Int.{int_gap, saturate_signed}
use Rattle.std.proofs.lemmas.Bool.{cases_lt, cases_Bool, and_parts}
use Rattle.std.proofs.lemmas.Int.{ints}
use Rattle.std.proofs.lemmas.List.{get_or_past}
use Rattle.uts_geom.specs.declared.index.Index.{Index}
use Rattle.uts_geom.specs.declared.span.Span.{Span}
use Rattle.uts_geom.specs.Spans.{index, is_between, is_inside, indexes_of, IsNearNumber, IsNearSpan}
use Rattle.whole_fields.specs.Views.{number_in, number_along}
use Rattle.whole_fields.proofs.RowViews.{number_outside}

abbrev saturated : ℤ → ℤ
saturated n = saturate_signed w64 n

between_saturated : (low high n : ℤ) → IsNearNumber low → IsNearNumber high → is_between low high (saturated n) ≡ is_between low high n
between_saturated low high n near_low near_high = grind (arith, ints)

inside_saturated : (low high n : ℤ) → IsNearNumber low → IsNearNumber high → is_between low high n ≡ true → saturated n ≡ n
inside_saturated low high n near_low near_high inside = grind (arith, ints)

before_saturated : (low n : ℤ) → IsNearNumber low → int_lt n low ≡ true → int_lt (saturated n) low ≡ true
before_saturated low n near before = grind (arith, ints)

pub along_before : (low : ℤ) (numbers : List ℤ) (outside x : ℤ) → int_lt x low ≡ true → number_along low numbers outside x ≡ outside
unfolding number_along
along_before low numbers outside x before = rw before refl

pub along_from : (low : ℤ) (numbers : List ℤ) (outside x : ℤ) → int_lt x low ≡ false → number_along low numbers outside x ≡ slice_index_or numbers (int_gap low x) outside
unfolding number_along
along_from low numbers outside x after = rw after refl

-- how far a number lies above another
pub far_above : (low x : ℤ) → int_lt x low ≡ false → unsigned_abs (low -ℤ x) ≡ int_gap low x
far_above low x after = grind (arith, ints)

pub along_behind : (low : ℤ) (numbers : List ℤ) (outside x : ℤ) → int_lt x low ≡ false → length numbers ≤ int_gap low x → number_along low numbers outside x ≡ outside
unfolding number_along
along_behind low numbers outside x after behind = rw after (get_or_past numbers (int_gap low x) outside behind)

-- where a number stands that is brought into the range and then moved up
lower_end : (low : ℤ) (n k : ℕ) → IsNearNumber low → 2 ^ 63 ≤ n → k < 2 ^ 62 → int_lt (saturated (negsuc n) +ℤ pos k) low ≡ true
lower_end low n k near far near_place = grind (arith, ints)

upper_end : (low : ℤ) (n k : ℕ) → IsNearNumber low → 2 ^ 63 ≤ n → (int_lt (saturated (pos n) +ℤ pos k) low ≡ false) × (131072 ≤ int_gap low (saturated (pos n) +ℤ pos k))
upper_end low n k near far = (grind (arith, ints), grind (arith, ints))

beyond_end : (low : ℤ) (n k : ℕ) → IsNearNumber low → 2 ^ 63 ≤ n → (int_lt (pos n +ℤ pos k) low ≡ false) × (131072 ≤ int_gap low (pos n +ℤ pos k))
beyond_end low n k near far = (grind (arith, ints), grind (arith, ints))

before_end : (low : ℤ) (n k : ℕ) → IsNearNumber low → 2 ^ 63 ≤ n → k < 2 ^ 62 → int_lt (negsuc n +ℤ pos k) low ≡ true
before_end low n k near far near_place = grind (arith, ints)

unchanged_above : (n : ℕ) → n < 2 ^ 63 → saturated (pos n) ≡ pos n
unchanged_above n small = grind (arith, ints)

unchanged_below : (n : ℕ) → n < 2 ^ 63 → saturated (negsuc n) ≡ negsuc n
unchanged_below n small = grind (arith, ints)

-- a row is seen alike from a number and from what it is brought into the range to
module _ (low : ℤ) (numbers : List ℤ) (outside : ℤ) (near : IsNearNumber low) (short : length numbers ≤ 131072) where
  pub along_moved : (n : ℤ) (k : ℕ) → k < 2 ^ 62 → number_along low numbers outside (saturated n +ℤ pos k) ≡ number_along low numbers outside (n +ℤ pos k)
  along_moved (pos n) k near_place =
      elim (cases_lt n (2 ^ 63)) [
        | inl small ↦ ap (λ (m : ℤ). number_along low numbers outside (m +ℤ pos k)) (unchanged_above n small)
        | inr far ↦
            let upper = upper_end low n k near far in
            let beyond = beyond_end low n k near far in
            along_behind low numbers outside (saturated (pos n) +ℤ pos k) upper.0 (omega (arith, upper.1))
            ∙ sym (along_behind low numbers outside (pos n +ℤ pos k) beyond.0 (omega (arith, beyond.1)))
      ]
  along_moved (negsuc n) k near_place =
      elim (cases_lt n (2 ^ 63)) [
        | inl small ↦ ap (λ (m : ℤ). number_along low numbers outside (m +ℤ pos k)) (unchanged_below n small)
        | inr far ↦
            along_before low numbers outside (saturated (negsuc n) +ℤ pos k) (lower_end low n k near far near_place)
            ∙ sym (along_before low numbers outside (negsuc n +ℤ pos k) (before_end low n k near far near_place))
      ]

  pub along_saturated : (n : ℤ) → number_along low numbers outside (saturated n) ≡ number_along low numbers outside n
  along_saturated n =
      let here : (m : ℤ) → m +ℤ pos 0 ≡ m = λ m. grind (arith, ints) in
      ap (number_along low numbers outside) (sym (here (saturated n))) ∙ along_moved n 0 (omega arith) ∙ ap (number_along low numbers outside) (here n)

-- a field is seen alike in a row at such a y and z
pub in_row_saturated : (s : Span) → ((i : Index) → Contains (indexes_of s) i ↔ IsTrue (is_inside s i)) → IsNearSpan s → (numbers : List ℤ) (blank x y z : ℤ) →
    number_in s numbers blank (index x (saturated y) (saturated z)) ≡ number_in s numbers blank (index x y z)
in_row_saturated s holds near numbers blank x y z =
    let on_y = between_saturated s.lo.y s.hi.y y near.lo.y near.hi.y in
    let on_z = between_saturated s.lo.z s.hi.z z near.lo.z near.hi.z in
    elim (cases_Bool (is_inside s (index x y z))) [
      | inl inside ↦
          let inner = and_parts _ _ (and_parts _ _ inside).1 in
          ap (λ (n : ℤ). number_in s numbers blank (index x n (saturated z))) (inside_saturated s.lo.y s.hi.y y near.lo.y near.hi.y inner.0)
          ∙ ap (λ (n : ℤ). number_in s numbers blank (index x y n)) (inside_saturated s.lo.z s.hi.z z near.lo.z near.hi.z inner.1)
      | inr outside ↦
          number_outside s holds numbers blank (index x (saturated y) (saturated z)) (rw (on_y, on_z) outside)
          ∙ sym (number_outside s holds numbers blank (index x y z) outside)
    ]
