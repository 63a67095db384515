-- When spans meet.
use Rattle.std.proofs.Common.{◌≡◌, ℤ, true, arith}
use Rattle.std.specs.Prelude.{int_lt}
use Rattle.std.specs.Int.{int_max, int_min}
use Rattle.std.proofs.lemmas.Bool.{and_from, and_parts}
use Rattle.std.proofs.lemmas.Int.{ints, clamps}
use Rattle.uts_geom.specs.Spans.{is_between, meet_of}
use Rattle.uts_geom.specs.Axes.{by_axes, inside_from_axes}
use Rattle.uts_geom.specs.Laws.{SpansMeetInIndexes}

lowest_common : (a b c d : ℤ) → int_lt (int_max a b) (int_min c d) ≡ true → (is_between a c (int_max a b) ≡ true) × (is_between b d (int_max a b) ≡ true)
lowest_common a b c d some = (grind (arith, ints, clamps), grind (arith, ints, clamps))

some_common : (a b c d n : ℤ) → is_between a c n ≡ true → is_between b d n ≡ true → int_lt (int_max a b) (int_min c d) ≡ true
some_common a b c d n one other = grind (arith, ints, clamps)

pub meet_in_indexes : SpansMeetInIndexes
meet_in_indexes a b = (
  λ meet.
      let on_x = and_parts _ _ meet in
      let on_y = and_parts _ _ on_x.1 in
      let x = lowest_common a.lo.x b.lo.x a.hi.x b.hi.x on_x.0 in
      let y = lowest_common a.lo.y b.lo.y a.hi.y b.hi.y on_y.0 in
      let z = lowest_common a.lo.z b.lo.z a.hi.z b.hi.z on_y.1 in
      let low = (meet_of a b).lo in
      (low, inside_from_axes a low (record { x = x.0; y = y.0; z = z.0 }), inside_from_axes b low (record { x = x.1; y = y.1; z = z.1 })),
  λ (i, in_a, in_b).
      let on_a = by_axes a i in_a in
      let on_b = by_axes b i in_b in
      and_from _ _ (some_common a.lo.x b.lo.x a.hi.x b.hi.x i.x on_a.x on_b.x)
      (and_from _ _ (some_common a.lo.y b.lo.y a.hi.y b.hi.y i.y on_a.y on_b.y) (some_common a.lo.z b.lo.z a.hi.z b.hi.z i.z on_a.z on_b.z)),
)
