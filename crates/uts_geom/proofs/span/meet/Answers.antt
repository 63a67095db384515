use Rattle.std.proofs.Common.{arith, w64, ◌≡◌, ◌∙◌, ap, to_z, of_z, refl}
use Rattle.std.proofs.lemmas.Int.{to_z-of_z}
use Rattle.std.specs.Int.{int_max, int_min}
use Rattle.uts_geom.specs.declared.span.Span.{Span}
use Rattle.uts_geom.specs.Spans.{is_inside}
use Rattle.uts_geom.proofs.Meets.{inside_both}
use Rattle.uts_geom.proofs.span.meet.Goals as goal

pub returns-clause-corners : goal.returns-clause-corners
returns-clause-corners c =
    let low_x : to_z w64 (of_z w64 c.max.result) ≡ int_max c.args.a.lo.x c.args.b.lo.x = grind (arith, to_z-of_z) in
    let low_y : to_z w64 (of_z w64 c.max-2.result) ≡ int_max c.args.a.lo.y c.args.b.lo.y = grind (arith, to_z-of_z) in
    let low_z : to_z w64 (of_z w64 c.max-3.result) ≡ int_max c.args.a.lo.z c.args.b.lo.z = grind (arith, to_z-of_z) in
    let high_x : to_z w64 (of_z w64 c.min.result) ≡ int_min c.args.a.hi.x c.args.b.hi.x = grind (arith, to_z-of_z) in
    let high_y : to_z w64 (of_z w64 c.min-2.result) ≡ int_min c.args.a.hi.y c.args.b.hi.y = grind (arith, to_z-of_z) in
    let high_z : to_z w64 (of_z w64 c.min-3.result) ≡ int_min c.args.a.hi.z c.args.b.hi.z = grind (arith, to_z-of_z) in
    rw (low_x, low_y, low_z, high_x, high_y, high_z) refl

pub returns-clause-common : goal.returns-clause-common
returns-clause-common c = λ i. ap (λ (s : Span). is_inside s i) (returns-clause-corners c) ∙ inside_both c.args.a c.args.b i
