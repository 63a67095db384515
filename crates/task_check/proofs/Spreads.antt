-- Windows on an axis: where they begin and end, by the bounds of a patch.
use Rattle.std.proofs.Common.{◌≡◌, ◌≤◌, ◌<◌, ◌+◌, ◌-◌, ◌*◌, ◌⊎◌, inl, inr, ℕ, ℤ, pos, negsuc, ◌+ℤ◌, ◌≤ℤ◌, ◌/◌, ◌%◌, true, arith}
use Rattle.std.specs.Prelude.{◌*ℤ◌}
use Rattle.std.proofs.Math.Nat.{mul-le-mul_left, mul-div-le, div-add-mod, div-mul-le_self, div-le_of_le-mul, mod-lt}
use Rattle.std.proofs.lemmas.Bool.{cases_lt}
use Rattle.std.proofs.lemmas.Int.{ints}
use Rattle.std.proofs.lemmas.Nat.{le-div}
use Rattle.uts_geom.specs.Spans.{is_between}

-- The number `i` lies in the window of each interval around the cell `x`.
abbrev pub IsSeenFrom : (Fits : ℕ → Type 0) (begin end : ℕ → ℤ) → (x : ℕ) → (i : ℤ) → Type 0
IsSeenFrom Fits begin end x i = (a b : ℕ) → Fits a → Fits b → a ≤ x → x < b → is_between (begin a) (end b) i ≡ true

-- Wider intervals have wider windows, and what lies in the window of an interval is seen from one of its cells.
pub record IsSpread (Fits : ℕ → Type 0) (begin end : ℕ → ℤ) : Type 0 where
  pub widens : (low a b high : ℕ) → low ≤ a → b ≤ high → (i : ℤ) → is_between (begin a) (end b) i ≡ true → is_between (begin low) (end high) i ≡ true
  pub seen : (low high : ℕ) → Fits low → Fits high → low < high → (i : ℤ) → is_between (begin low) (end high) i ≡ true →
      (x : ℕ) × (low ≤ x) × (x < high) × IsSeenFrom Fits begin end x i

-- each bound
abbrev pub AnyBound : ℕ → Type 0
AnyBound n = Unit {0}

-- layers around the interval
module _ (before behind : ℤ) (down : before ≤ℤ pos 0) (up : pos 0 ≤ℤ behind) where
  layered_seen : (low high : ℕ) → low < high → (i : ℤ) → is_between (pos low +ℤ before) (pos high +ℤ behind) i ≡ true →
      (x : ℕ) × (low ≤ x) × (x < high) × IsSeenFrom AnyBound (λ n. pos n +ℤ before) (λ n. pos n +ℤ behind) x i
  layered_seen low high some (negsuc i) inside = (low, omega arith, some, λ a b fit_a fit_b from below. grind (arith, ints))
  layered_seen low high some (pos i) inside = by_order (cases_lt i low) (cases_lt i high)
    where
      by_order : (i < low) ⊎ (low ≤ i) → (i < high) ⊎ (high ≤ i) →
          (x : ℕ) × (low ≤ x) × (x < high) × IsSeenFrom AnyBound (λ n. pos n +ℤ before) (λ n. pos n +ℤ behind) x (pos i)
      by_order (inl under) (inl below) = (low, omega arith, some, λ a b fit_a fit_b from under_b. grind (arith, ints))
      by_order (inl under) (inr above) = absurd (omega arith)
      by_order (inr from) (inl below) = (i, from, below, λ a b fit_a fit_b from_a under_b. grind (arith, ints))
      by_order (inr from) (inr above) = (high - 1, omega arith, omega arith, λ a b fit_a fit_b from_a under_b. grind (arith, ints))

  pub layered : IsSpread AnyBound (λ n. pos n +ℤ before) (λ n. pos n +ℤ behind)
  layered = record {
    widens = λ low a b high wider reaches i inside. grind (arith, ints);
    seen = λ low high fit_low fit_high some i inside. layered_seen low high some i inside;
  }

-- the same on a level that is coarser by a ratio, by bounds that are multiples of it
abbrev pub IsMultiple : (ratio : ℕ) → ℕ → Type 0
IsMultiple ratio n = n % ratio ≡ 0

whole : (ratio n : ℕ) → IsMultiple ratio n → ratio * (n / ratio) ≡ n
whole ratio n is = omega (arith, div-add-mod n ratio, is)

div-le : (ratio a b : ℕ) → 0 < ratio → a ≤ b → a / ratio ≤ b / ratio
div-le ratio a b some le = le-div (a / ratio) b ratio some (omega (arith, div-mul-le_self a ratio))

-- the cells of a coarse one begin at a multiple
under_multiple : (ratio a x : ℕ) → 0 < ratio → IsMultiple ratio a → a ≤ ratio * x → a / ratio ≤ x
under_multiple ratio a x some is le = div-le_of_le-mul ratio (let m : a ≤ ratio * x = le in m)

above_multiple : (ratio b x : ℕ) → 0 < ratio → IsMultiple ratio b → ratio * x < b → x < b / ratio
above_multiple ratio b x some is less = by_order (cases_lt x (b / ratio))
  where
    by_order : (x < b / ratio) ⊎ (b / ratio ≤ x) → x < b / ratio
    by_order (inl below) = below
    by_order (inr from) = absurd (omega (arith, whole ratio b is, mul-le-mul_left ratio from, less))

module _ (ratio : ℕ) (some_ratio : 0 < ratio) (before behind : ℤ) (down : before ≤ℤ pos 0) (up : pos 0 ≤ℤ behind) where
  coarse_seen : (low high : ℕ) → IsMultiple ratio low → IsMultiple ratio high → low < high → (i : ℤ) →
      is_between (pos (low / ratio) +ℤ before) (pos (high / ratio) +ℤ behind) i ≡ true →
      (x : ℕ) × (low ≤ x) × (x < high) × IsSeenFrom (IsMultiple ratio) (λ n. pos (n / ratio) +ℤ before) (λ n. pos (n / ratio) +ℤ behind) x i
  coarse_seen low high fit_low fit_high some i inside =
      let apart : low / ratio < high / ratio = above_multiple ratio high (low / ratio) some_ratio fit_high (omega (arith, whole ratio low fit_low, some)) in
      let cell = layered_seen before behind down up (low / ratio) (high / ratio) apart i inside in (
        ratio * cell.0,
        omega (arith, whole ratio low fit_low, mul-le-mul_left ratio cell.1),
        by_order cell.0 cell.2 (cases_lt (ratio * cell.0) high),
        λ a b fit_a fit_b from below. cell.3 (a / ratio) (b / ratio) tt tt (under_multiple ratio a cell.0 some_ratio fit_a from) (above_multiple ratio b cell.0 some_ratio fit_b below),
      )
    where
      by_order : (x : ℕ) → x < high / ratio → (ratio * x < high) ⊎ (high ≤ ratio * x) → ratio * x < high
      by_order x less (inl below) = below
      by_order x less (inr from) = absurd (omega (arith, under_multiple ratio high x some_ratio fit_high from, less))

  pub coarsened : IsSpread (IsMultiple ratio) (λ n. pos (n / ratio) +ℤ before) (λ n. pos (n / ratio) +ℤ behind)
  coarsened = record {
    widens = λ low a b high wider reaches i inside.
        (layered before behind down up).widens (low / ratio) (a / ratio) (b / ratio) (high / ratio)
        (div-le ratio low a some_ratio wider) (div-le ratio b high some_ratio reaches) i inside;
    seen = coarse_seen;
  }

-- the same on a level that is finer by a ratio, where a point may count besides
module _ (ratio : ℕ) (some_ratio : 0 < ratio) (besides : ℤ) (from_none : pos 0 ≤ℤ besides) (to_one : besides ≤ℤ pos 1) where
  -- within, by whole cells
  between_fine : (a b i : ℕ) → ratio * a ≤ i → i < ratio * b → is_between (pos ratio *ℤ pos a) (pos ratio *ℤ pos b +ℤ besides) (pos i) ≡ true
  between_fine a b i from below = grind (arith, ints)

  fine_seen : (low high : ℕ) → low < high → (i : ℤ) → is_between (pos ratio *ℤ pos low) (pos ratio *ℤ pos high +ℤ besides) i ≡ true →
      (x : ℕ) × (low ≤ x) × (x < high) × IsSeenFrom AnyBound (λ n. pos ratio *ℤ pos n) (λ n. pos ratio *ℤ pos n +ℤ besides) x i
  fine_seen low high some (negsuc i) inside = absurd (grind (arith, ints))
  fine_seen low high some (pos i) inside = by_order (cases_lt (i / ratio) high)
    where
      from_low : ratio * low ≤ i
      from_low = grind (arith, ints)

      by_order : (i / ratio < high) ⊎ (high ≤ i / ratio) →
          (x : ℕ) × (low ≤ x) × (x < high) × IsSeenFrom AnyBound (λ n. pos ratio *ℤ pos n) (λ n. pos ratio *ℤ pos n +ℤ besides) x (pos i)
      by_order (inl below) = (
        i / ratio,
        le-div low i ratio some_ratio (omega (arith, from_low)),
        below,
        λ a b fit_a fit_b from_a under_b. between_fine a b i
            (omega (arith, mul-le-mul_left ratio from_a, mul-div-le i ratio))
            (let next : i / ratio + 1 ≤ b = omega (arith, under_b) in omega (arith, mul-le-mul_left ratio next, div-add-mod i ratio, mod-lt i some_ratio)),
      )
      by_order (inr above) = (
        high - 1,
        omega arith,
        omega arith,
        λ a b fit_a fit_b from_a under_b.
            let a_within : a ≤ high = omega (arith, from_a) in
            let b_from : high ≤ b = omega (arith, under_b, some) in
            let whole_cells : ratio * high ≤ i = omega (arith, mul-le-mul_left ratio above, mul-div-le i ratio) in
            let low_a : ratio * a ≤ ratio * high = mul-le-mul_left ratio a_within in
            let high_b : ratio * high ≤ ratio * b = mul-le-mul_left ratio b_from in
            grind (arith, ints),
      )

  pub refined : IsSpread AnyBound (λ n. pos ratio *ℤ pos n) (λ n. pos ratio *ℤ pos n +ℤ besides)
  refined = record {
    widens = λ low a b high wider reaches i inside.
        let low_a : ratio * low ≤ ratio * a = mul-le-mul_left ratio wider in
        let high_b : ratio * b ≤ ratio * high = mul-le-mul_left ratio reaches in
        grind (arith, ints);
    seen = λ low high fit_low fit_high some i inside. fine_seen low high some i inside;
  }
