use Rattle.std.proofs.Common.{◌≡◌, ◌∙◌, ap, refl, rules, ℤ, pos, ◌+ℤ◌, ◌*ℤ◌, w64, FitsSigned, arith}
use Rattle.std.specs.Prelude.{nat_abs, Bool, if◌then◌else◌}
use Rattle.std.proofs.lemmas.Int.{ints, to_z-of_z}
use Rattle.uts_geom.specs.Centrings.{is_point_like}
use Rattle.uts_geom.specs.Spans.{index, IsNearNumber}
use Rattle.uts_geom.specs.declared.centring.Axis.TheVariants.{X, Y, Z}
use Rattle.uts_geom.specs.declared.index.Index.{Index}
use Rattle.uts_geom.specs.declared.span.Span.{Span}
use Rattle.refine_coarsen.proofs.fine.fine_span.Goals as goal

fits_near : (n : ℤ) → IsNearNumber n → FitsSigned w64 n
fits_near n near = grind (arith, ints, near.0, near.1)

pub returns : goal.returns
returns c =
    let patch = c.args.patch in
    let centring = c.args.c in
    let fits : FitsSigned w64 c.args.ratio = c.ranges.ratio in
    let fits_x : FitsSigned w64 patch.hi.x = fits_near patch.hi.x c.requires.near.hi.x in
    let fits_y : FitsSigned w64 patch.hi.y = fits_near patch.hi.y c.requires.near.hi.y in
    let fits_z : FitsSigned w64 patch.hi.z = fits_near patch.hi.z c.requires.near.hi.z in
    let at : ℤ → Bool → ℤ = λ n point. pos (nat_abs c.args.ratio) *ℤ n +ℤ (if point then pos 1 else pos 0) in
    let fits_end_x : FitsSigned w64 c.fine_end.result = search rules in
    let fits_end_y : FitsSigned w64 c.fine_end-2.result = search rules in
    let fits_end_z : FitsSigned w64 c.fine_end-3.result = search rules in
    let lo = simp to_z-of_z at c.fine_index.ensures in
    let x : c.fine_end.result ≡ at patch.hi.x (is_point_like centring X) = (simp to_z-of_z at c.fine_end.ensures) ∙ ap (at patch.hi.x) c.point_like.ensures in
    let y : c.fine_end-2.result ≡ at patch.hi.y (is_point_like centring Y) = (simp to_z-of_z at c.fine_end-2.ensures) ∙ ap (at patch.hi.y) c.point_like-2.ensures in
    let z : c.fine_end-3.result ≡ at patch.hi.z (is_point_like centring Z) = (simp to_z-of_z at c.fine_end-3.ensures) ∙ ap (at patch.hi.z) c.point_like-3.ensures in
    simp to_z-of_z (
    ap (λ (i : Index). let s : Span = record { lo = i; hi = index c.fine_end.result c.fine_end-2.result c.fine_end-3.result } in s) lo
    ∙ rw (x, y, z) refl)
