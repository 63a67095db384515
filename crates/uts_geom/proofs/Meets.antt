-- The indexes that two spans have in common.
use Rattle.std.proofs.Common.{◌≡◌, ◌∙◌, ap, refl, arith, ℤ, Bool, true, false}
use Rattle.std.specs.Prelude.{◌&&◌}
use Rattle.std.specs.Int.{int_max, int_min}
use Rattle.std.proofs.lemmas.Int.{ints, clamps}
use Rattle.uts_geom.specs.declared.index.Index.{Index}
use Rattle.uts_geom.specs.declared.span.Span.{Span}
use Rattle.uts_geom.specs.Spans.{is_between, is_inside, meet_of}

between_both : (a b c d n : ℤ) → is_between (int_max a b) (int_min c d) n ≡ (is_between a c n && is_between b d n)
between_both a b c d n = first_of (grind (arith, ints), grind (arith, ints, clamps))

-- the tests of two axes change places
regrouped : (a b c d e f : Bool) → ((a && b) && ((c && d) && (e && f))) ≡ ((a && (c && e)) && (b && (d && f)))
regrouped false b c d e f = refl
regrouped true false false d e f = refl
regrouped true false true d false f = refl
regrouped true false true d true f = refl
regrouped true true false d e f = refl
regrouped true true true false false f = refl
regrouped true true true false true f = refl
regrouped true true true true e f = refl

pub inside_both : (a b : Span) (i : Index) → is_inside (meet_of a b) i ≡ (is_inside a i && is_inside b i)
inside_both a b i =
    ap (λ (t : Bool). t && (is_between (int_max a.lo.y b.lo.y) (int_min a.hi.y b.hi.y) i.y && is_between (int_max a.lo.z b.lo.z) (int_min a.hi.z b.hi.z) i.z)) (between_both a.lo.x b.lo.x a.hi.x b.hi.x i.x)
    ∙ ap (λ (t : Bool). (is_between a.lo.x a.hi.x i.x && is_between b.lo.x b.hi.x i.x) && (t && is_between (int_max a.lo.z b.lo.z) (int_min a.hi.z b.hi.z) i.z)) (between_both a.lo.y b.lo.y a.hi.y b.hi.y i.y)
    ∙ ap (λ (t : Bool). (is_between a.lo.x a.hi.x i.x && is_between b.lo.x b.hi.x i.x) && ((is_between a.lo.y a.hi.y i.y && is_between b.lo.y b.hi.y i.y) && t)) (between_both a.lo.z b.lo.z a.hi.z b.hi.z i.z)
    ∙ regrouped (is_between a.lo.x a.hi.x i.x) (is_between b.lo.x b.hi.x i.x) (is_between a.lo.y a.hi.y i.y) (is_between b.lo.y b.hi.y i.y) (is_between a.lo.z a.hi.z i.z) (is_between b.lo.z b.hi.z i.z)
