use Rattle.std.proofs.Common.{arith, ◌≡◌, rules, w64, FitsSigned}
use Rattle.std.proofs.lemmas.Int.{to_z-of_z}
use Rattle.std.specs.Int.{int_gap}
use Rattle.uts_geom.specs.Spans.{width_of, height_of}
use Rattle.uts_geom.specs.Places.{get-inside}
use Rattle.uts_geom.proofs.Walking.{inside_near}
use Rattle.uts_geom.proofs.sizes.offset_in.Goals as goal

pub extent-x-requires-clause-high_near : goal.extent-x-requires-clause-high_near
extent-x-requires-clause-high_near c =
    let near = inside_near c.args.s c.args.i c.requires.inside c.requires.near in
    let fits : FitsSigned w64 c.args.i.x = search rules in
    simp to_z-of_z near.x

pub extent-y-requires-clause-high_near : goal.extent-y-requires-clause-high_near
extent-y-requires-clause-high_near c =
    let near = inside_near c.args.s c.args.i c.requires.inside c.requires.near in
    let fits : FitsSigned w64 c.args.i.y = search rules in
    simp to_z-of_z near.y

pub extent-z-requires-clause-high_near : goal.extent-z-requires-clause-high_near
extent-z-requires-clause-high_near c =
    let near = inside_near c.args.s c.args.i c.requires.inside c.requires.near in
    let fits : FitsSigned w64 c.args.i.z = search rules in
    simp to_z-of_z near.z

pub returns : goal.returns
returns c =
    let w : c.extent-width.result ≡ width_of c.args.s = grind (arith, to_z-of_z, c.extent-width.ensures.extent) in
    let h : c.extent-height.result ≡ height_of c.args.s = grind (arith, to_z-of_z, c.extent-height.ensures.extent) in
    let x : c.extent-x.result ≡ int_gap c.args.s.lo.x c.args.i.x = grind (arith, to_z-of_z, c.extent-x.ensures.extent) in
    let y : c.extent-y.result ≡ int_gap c.args.s.lo.y c.args.i.y = grind (arith, to_z-of_z, c.extent-y.ensures.extent) in
    let z : c.extent-z.result ≡ int_gap c.args.s.lo.z c.args.i.z = grind (arith, to_z-of_z, c.extent-z.ensures.extent) in
    rw (w, h, x, y, z) (get-inside c.args.s c.args.i c.requires.inside)
