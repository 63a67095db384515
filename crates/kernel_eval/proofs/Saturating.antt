-- Sums brought into the range of numbers, and near spans.
use Rattle.std.proofs.Common.{◌≡◌, ℤ, true, refl, w64, arith}
use Rattle.std.specs.Prelude.{◌&&◌}
use Rattle.std.specs.Int.{saturate_signed}
use Rattle.std.proofs.lemmas.Bool.{and_parts}
use Rattle.std.proofs.lemmas.Int.{ints}
use Rattle.uts_geom.specs.Spans.{index, is_between, is_inside, IsNearNumber, IsNearSpan}
use Rattle.uts_geom.specs.declared.index.Index.{Index}
use Rattle.uts_geom.specs.declared.span.Span.{Span}

abbrev pub saturated : ℤ → ℤ
saturated n = saturate_signed w64 n

abbrev pub saturated_index : Index → Index
saturated_index i = index (saturated i.x) (saturated i.y) (saturated i.z)

between_saturated : (low high n : ℤ) → IsNearNumber low → IsNearNumber high → is_between low high (saturated n) ≡ is_between low high n
between_saturated low high n near_low near_high = grind (arith, ints)

inside_saturated : (low high n : ℤ) → IsNearNumber low → IsNearNumber high → is_between low high n ≡ true → saturated n ≡ n
inside_saturated low high n near_low near_high inside = grind (arith, ints)

-- a near span holds the one exactly where it holds the other
pub same_inside : (s : Span) (i : Index) → IsNearSpan s → is_inside s (saturated_index i) ≡ is_inside s i
same_inside s i near =
    rw (
      between_saturated s.lo.x s.hi.x i.x near.lo.x near.hi.x,
      between_saturated s.lo.y s.hi.y i.y near.lo.y near.hi.y,
      between_saturated s.lo.z s.hi.z i.z near.lo.z near.hi.z,
    ) refl

-- and they are then the same
pub same_index : (s : Span) (i : Index) → IsNearSpan s → is_inside s i ≡ true → saturated_index i ≡ i
same_index s i near inside =
    let on_x = and_parts (is_between s.lo.x s.hi.x i.x) (is_between s.lo.y s.hi.y i.y && is_between s.lo.z s.hi.z i.z) inside in
    let on_y = and_parts (is_between s.lo.y s.hi.y i.y) (is_between s.lo.z s.hi.z i.z) on_x.1 in
    rw (
      inside_saturated s.lo.x s.hi.x i.x near.lo.x near.hi.x on_x.0,
      inside_saturated s.lo.y s.hi.y i.y near.lo.y near.hi.y on_y.0,
      inside_saturated s.lo.z s.hi.z i.z near.lo.z near.hi.z on_y.1,
    ) refl
