use Rattle.std.proofs.Common.{arith, ◌≡◌, ◌+ℤ◌, to_z, of_z, w64, refl, false}
use Rattle.std.proofs.lemmas.Int.{to_z-of_z}
use Rattle.uts_geom.specs.Centrings.{is_point_like}
use Rattle.uts_geom.specs.declared.centring.Axis.TheVariants.{X, Y, Z}
use Rattle.ghost_rules.specs.Windows.{along, window_begin, window_end}
use Rattle.ghost_rules.specs.FewLayers.{few_along}
use Rattle.ghost_rules.proofs.windows.window.Goals as goal

pub bounds-z-requires-clause-few : goal.bounds-z-requires-clause-few
bounds-z-requires-clause-few c = rw c.along-3.ensures (few_along c.args.layers.kind c.args.layers.n Z c.requires.few)

pub returns : goal.returns
returns c =
    let low_x : to_z w64 (of_z w64 c.bounds-x.result.0) ≡ c.args.patch.lo.x +ℤ window_begin (along c.args.layers X) (is_point_like c.args.c X) =
    grind (arith, to_z-of_z, c.bounds-x.ensures, c.along.ensures, c.point_like.ensures) in
    let low_y : to_z w64 (of_z w64 c.bounds-y.result.0) ≡ c.args.patch.lo.y +ℤ window_begin (along c.args.layers Y) (is_point_like c.args.c Y) =
    grind (arith, to_z-of_z, c.bounds-y.ensures, c.along-2.ensures, c.point_like-2.ensures) in
    let low_z : to_z w64 (of_z w64 c.bounds-z.result.0) ≡ c.args.patch.lo.z +ℤ window_begin (along c.args.layers Z) (is_point_like c.args.c Z) =
    grind (arith, to_z-of_z, c.bounds-z.ensures, c.along-3.ensures, c.point_like-3.ensures) in
    let high_x : to_z w64 (of_z w64 c.bounds-x.result.1) ≡ c.args.patch.hi.x +ℤ window_end (along c.args.layers X) (is_point_like c.args.c X) false =
    grind (arith, to_z-of_z, c.bounds-x.ensures, c.along.ensures, c.point_like.ensures) in
    let high_y : to_z w64 (of_z w64 c.bounds-y.result.1) ≡ c.args.patch.hi.y +ℤ window_end (along c.args.layers Y) (is_point_like c.args.c Y) false =
    grind (arith, to_z-of_z, c.bounds-y.ensures, c.along-2.ensures, c.point_like-2.ensures) in
    let high_z : to_z w64 (of_z w64 c.bounds-z.result.1) ≡ c.args.patch.hi.z +ℤ window_end (along c.args.layers Z) (is_point_like c.args.c Z) false =
    grind (arith, to_z-of_z, c.bounds-z.ensures, c.along-3.ensures, c.point_like-3.ensures) in
    rw (low_x, low_y, low_z, high_x, high_y, high_z) refl
