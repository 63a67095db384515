-- Spans beside one another, by their corners.
use Rattle.std.proofs.Common.{◌≡◌, ◌∙◌, ℤ, pos, ◌≤ℤ◌, Bool, true, false, arith, refl, sym}
use Rattle.std.specs.Prelude.{◌&&◌, ◌-ℤ◌, ◌↔◌, not, IsTrue}
use Rattle.std.proofs.lemmas.Bool.{and_parts, and_from, false≢true}
use Rattle.std.proofs.lemmas.Int.{ints}
use Rattle.uts_geom.specs.declared.span.Span.{Span}
use Rattle.uts_geom.specs.Axes.{by_axes, inside_from_axes}
use Rattle.uts_geom.specs.Laws.{SpansMeetInIndexes}
use Rattle.uts_geom.specs.Spans.{index, is_between, is_inside, do_meet}
use Rattle.problem_types.specs.Levels.{LiesIn, AreApart}

between_wider : (low high from to n : ℤ) → from ≤ℤ low → high ≤ℤ to → is_between low high n ≡ true → is_between from to n ≡ true
between_wider low high from to n a b h = grind (arith, ints)

between_low : (low high n : ℤ) → is_between low high n ≡ true → is_between low high low ≡ true
between_low low high n h = grind (arith, ints)

between_last : (low high : ℤ) → is_between low high low ≡ true → is_between low high (high -ℤ pos 1) ≡ true
between_last low high h = grind (arith, ints)

low_within : (from to low : ℤ) → is_between from to low ≡ true → from ≤ℤ low
low_within from to low h = grind (arith, ints)

high_within : (from to high : ℤ) → is_between from to (high -ℤ pos 1) ≡ true → high ≤ℤ to
high_within from to high h = grind (arith, ints)

-- the corners of one span lie in the other
pub record LiesByCorners (inner outer : Span) : Type 0 where
  pub x : (outer.lo.x ≤ℤ inner.lo.x) × (inner.hi.x ≤ℤ outer.hi.x)
  pub y : (outer.lo.y ≤ℤ inner.lo.y) × (inner.hi.y ≤ℤ outer.hi.y)
  pub z : (outer.lo.z ≤ℤ inner.lo.z) × (inner.hi.z ≤ℤ outer.hi.z)

pub lies_from_corners : (inner outer : Span) → LiesByCorners inner outer → LiesIn inner outer
lies_from_corners inner outer by i inside =
    let at = by_axes inner i inside in
    inside_from_axes outer i (record {
      x = between_wider inner.lo.x inner.hi.x outer.lo.x outer.hi.x i.x by.x.0 by.x.1 at.x;
      y = between_wider inner.lo.y inner.hi.y outer.lo.y outer.hi.y i.y by.y.0 by.y.1 at.y;
      z = between_wider inner.lo.z inner.hi.z outer.lo.z outer.hi.z i.z by.z.0 by.z.1 at.z;
    })

pub corners_from_lies : (inner outer : Span) → is_inside inner inner.lo ≡ true → LiesIn inner outer → LiesByCorners inner outer
corners_from_lies inner outer some lies =
    let at = by_axes inner inner.lo some in
    let last = index (inner.hi.x -ℤ pos 1) (inner.hi.y -ℤ pos 1) (inner.hi.z -ℤ pos 1) in
    let low = by_axes outer inner.lo (lies inner.lo some) in
    let high = by_axes outer last (lies last (inside_from_axes inner last (record {
      x = between_last inner.lo.x inner.hi.x at.x;
      y = between_last inner.lo.y inner.hi.y at.y;
      z = between_last inner.lo.z inner.hi.z at.z;
    }))) in
    record {
      x = (low_within outer.lo.x outer.hi.x inner.lo.x low.x, high_within outer.lo.x outer.hi.x inner.hi.x high.x);
      y = (low_within outer.lo.y outer.hi.y inner.lo.y low.y, high_within outer.lo.y outer.hi.y inner.hi.y high.y);
      z = (low_within outer.lo.z outer.hi.z inner.lo.z low.z, high_within outer.lo.z outer.hi.z inner.hi.z high.z);
    }

-- spans are apart exactly where they do not meet
pub apart_unless_met : SpansMeetInIndexes → (a b : Span) (r : Bool) → r ≡ do_meet a b → IsTrue (not r) ↔ AreApart a b
apart_unless_met meets a b true is = (λ none. absurd (false≢true none), λ apart. let (i, in_a, in_b) = (meets a b).0 (sym is) in absurd (apart i in_a in_b))
apart_unless_met meets a b false is = (λ none i in_a in_b. false≢true (is ∙ (meets a b).1 (i, in_a, in_b)), λ apart. refl)

-- the tests of the three axes decide
pub lies_decided : (inner outer : Span) (x y z r : Bool) → is_inside inner inner.lo ≡ true →
    IsTrue x ↔ ((outer.lo.x ≤ℤ inner.lo.x) × (inner.hi.x ≤ℤ outer.hi.x)) →
    IsTrue y ↔ ((outer.lo.y ≤ℤ inner.lo.y) × (inner.hi.y ≤ℤ outer.hi.y)) →
    IsTrue z ↔ ((outer.lo.z ≤ℤ inner.lo.z) × (inner.hi.z ≤ℤ outer.hi.z)) →
    r ≡ (x && (y && z)) → IsTrue r ↔ LiesIn inner outer
lies_decided inner outer x y z r some on_x on_y on_z is = (
  λ yes'.
      let first = and_parts x (y && z) (sym is ∙ yes') in
      let second = and_parts y z first.1 in
      lies_from_corners inner outer (record { x = on_x.0 first.0; y = on_y.0 second.0; z = on_z.0 second.1 }),
  λ lies.
      let by = corners_from_lies inner outer some lies in
      is ∙ and_from x (y && z) (on_x.1 by.x) (and_from y z (on_y.1 by.y) (on_z.1 by.z)),
)
