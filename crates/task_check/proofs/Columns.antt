-- Columns of bounds, and how many of the spans in them a window meets.
use Rattle.std.proofs.Common.{◌≡◌, ◌∙◌, ◌<◌, ◌≤◌, ◌+◌, ◌⊎◌, inl, inr, ℕ, ℤ, pos, Bool, true, false, length, ap, refl, arith, get_or-set_same, get_or-set_other, ◌≢◌}
use Rattle.std.specs.Prelude.{int_lt, slice_set, ◌&&◌}
use Rattle.std.specs.Int.{int_max, int_min}
use Rattle.std.proofs.Math.Nat.{eq-or-lt_of_le}
use Rattle.std.proofs.lemmas.Int.{ints, clamps}
use Rattle.uts_geom.specs.declared.span.Span.{Span}
use Rattle.uts_geom.specs.Spans.{do_meet, has_indexes}
use Rattle.task_check.specs.Columns.{HasBounds}
use Rattle.task_check.specs.declared.plan.columns.Column.{Column}
use Rattle.task_check.proofs.Touching.{apart_on_x, apart_on_y, apart_on_z}

-- one more place is written
pub filled : (low high : ℕ → ℤ) (column : Column) (n m k : ℕ) → n < length column.low → n < length column.high →
    ((place : ℕ) → place < n → HasBounds column place (low place) (high place)) → pos m ≡ low n → pos k ≡ high n →
    (place : ℕ) → place < n + 1 → HasBounds (record { low = slice_set column.low n m; high = slice_set column.high n k }) place (low place) (high place)
filled low high column n m k in_low in_high before is_low is_high place within = by_order (eq-or-lt_of_le (let le : place ≤ n = omega arith in le))
  where
    by_order : (place ≡ n) ⊎ (place < n) → HasBounds (record { low = slice_set column.low n m; high = slice_set column.high n k }) place (low place) (high place)
    by_order (inl here) = record {
      low_is = rw here (ap pos (get_or-set_same column.low n m 0 in_low) ∙ is_low);
      high_is = rw here (ap pos (get_or-set_same column.high n k 0 in_high) ∙ is_high);
    }
    by_order (inr less) =
        let other : place ≢ n = omega arith in
        let bounds = before place less in
        record {
          low_is = ap pos (get_or-set_other column.low n place m 0 other) ∙ bounds.low_is;
          high_is = ap pos (get_or-set_other column.high n place k 0 other) ∙ bounds.high_is;
        }

-- a span meets itself where it has indexes, and else meets none
same_max : (a : ℤ) → int_max a a ≡ a
same_max a = omega (arith, ints, clamps)

same_min : (a : ℤ) → int_min a a ≡ a
same_min a = omega (arith, ints, clamps)

itself_along : (a b : ℤ) → int_lt (int_max a a) (int_min b b) ≡ int_lt a b
itself_along a b = ap (λ (m : ℤ). int_lt m (int_min b b)) (same_max a) ∙ ap (λ (m : ℤ). int_lt a m) (same_min b)

pub meets_itself : (s : Span) → do_meet s s ≡ has_indexes s
meets_itself s =
    ap (λ (b : Bool). b && (int_lt (int_max s.lo.y s.lo.y) (int_min s.hi.y s.hi.y) && int_lt (int_max s.lo.z s.lo.z) (int_min s.hi.z s.hi.z))) (itself_along s.lo.x s.hi.x)
    ∙ ap (λ (b : Bool). int_lt s.lo.x s.hi.x && (b && int_lt (int_max s.lo.z s.lo.z) (int_min s.hi.z s.hi.z))) (itself_along s.lo.y s.hi.y)
    ∙ ap (λ (b : Bool). int_lt s.lo.x s.hi.x && (int_lt s.lo.y s.hi.y && b)) (itself_along s.lo.z s.hi.z)

none_along : (a b c d : ℤ) → int_lt c d ≡ false → int_lt (int_max a c) (int_min b d) ≡ false
none_along a b c d none = grind (arith, ints, clamps)

-- a span without indexes meets none
pub meets_none : (own s : Span) → has_indexes s ≡ false → do_meet own s ≡ false
meets_none own s none = by_axes (int_lt s.lo.x s.hi.x) (int_lt s.lo.y s.hi.y) (int_lt s.lo.z s.hi.z) refl refl refl none
  where
    by_axes : (x y z : Bool) → int_lt s.lo.x s.hi.x ≡ x → int_lt s.lo.y s.hi.y ≡ y → int_lt s.lo.z s.hi.z ≡ z → (x && (y && z)) ≡ false → do_meet own s ≡ false
    by_axes false y z is_x is_y is_z none = apart_on_x own s (none_along own.lo.x own.hi.x s.lo.x s.hi.x is_x)
    by_axes true false z is_x is_y is_z none = apart_on_y own s (none_along own.lo.y own.hi.y s.lo.y s.hi.y is_y)
    by_axes true true false is_x is_y is_z none = apart_on_z own s (none_along own.lo.z own.hi.z s.lo.z s.hi.z is_z)
    by_axes true true true is_x is_y is_z none = absurd cc
