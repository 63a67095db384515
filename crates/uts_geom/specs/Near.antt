-- What two near spans have in common is near.
use Rattle.std.specs.Prelude.{ℤ}
use Rattle.std.specs.Int.{int_min, int_max}
use Rattle.std.proofs.Common.{arith}
use Rattle.std.proofs.lemmas.Int.{ints}
use Rattle.uts_geom.specs.declared.span.Span.{Span}
use Rattle.uts_geom.specs.Spans.{meet_of, IsNearNumber, IsNearSpan}

nearest : (a b : ℤ) → IsNearNumber a → IsNearNumber b → IsNearNumber (int_max a b)
nearest a b near_a near_b = (grind (arith, ints), grind (arith, ints))

nearest_end : (a b : ℤ) → IsNearNumber a → IsNearNumber b → IsNearNumber (int_min a b)
nearest_end a b near_a near_b = (grind (arith, ints), grind (arith, ints))

pub meet_near : (a b : Span) → IsNearSpan a → IsNearSpan b → IsNearSpan (meet_of a b)
meet_near a b near_a near_b = record {
  lo = record {
    x = nearest a.lo.x b.lo.x near_a.lo.x near_b.lo.x;
    y = nearest a.lo.y b.lo.y near_a.lo.y near_b.lo.y;
    z = nearest a.lo.z b.lo.z near_a.lo.z near_b.lo.z;
  };
  hi = record {
    x = nearest_end a.hi.x b.hi.x near_a.hi.x near_b.hi.x;
    y = nearest_end a.hi.y b.hi.y near_a.hi.y near_b.hi.y;
    z = nearest_end a.hi.z b.hi.z near_a.hi.z near_b.hi.z;
  };
}
