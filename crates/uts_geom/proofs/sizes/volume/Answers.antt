use Rattle.std.proofs.Common.{arith, ◌≡◌, refl}
use Rattle.std.proofs.lemmas.Int.{to_z-of_z}
use Rattle.uts_geom.specs.Spans.{width_of, height_of, depth_of}
use Rattle.uts_geom.specs.Places.{length-indexes}
use Rattle.uts_geom.proofs.sizes.volume.Goals as goal

pub returns : goal.returns
returns c =
    let w : c.extent-width.result ≡ width_of c.args.s = grind (arith, to_z-of_z, c.extent-width.ensures.extent) in
    let h : c.extent-height.result ≡ height_of c.args.s = grind (arith, to_z-of_z, c.extent-height.ensures.extent) in
    let d : c.extent-depth.result ≡ depth_of c.args.s = grind (arith, to_z-of_z, c.extent-depth.ensures.extent) in
    rw (w, h, d, length-indexes c.args.s) refl
