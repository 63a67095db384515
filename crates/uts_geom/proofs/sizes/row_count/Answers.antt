use Rattle.std.proofs.Common.{arith, ◌≡◌, refl, true}
use Rattle.std.specs.Prelude.{int_lt}
use Rattle.std.proofs.lemmas.Int.{ints, to_z-of_z}
use Rattle.uts_geom.specs.Spans.{height_of, depth_of}
use Rattle.uts_geom.specs.Places.{length-rows}
use Rattle.uts_geom.proofs.sizes.row_count.Goals as goal

pub returns-then-s-clause-rows : goal.returns-then-s-clause-rows
returns-then-s-clause-rows c =
    let h : c.extent-height.result ≡ height_of c.args.s = grind (arith, to_z-of_z, c.extent-height.ensures.extent) in
    let d : c.extent-depth.result ≡ depth_of c.args.s = grind (arith, to_z-of_z, c.extent-depth.ensures.extent) in
    let some : int_lt c.args.s.lo.x c.args.s.hi.x ≡ true = grind (arith, ints) in
    rw (h, d, length-rows c.args.s some) refl
