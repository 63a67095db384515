use Rattle.std.proofs.Common.{◌≡◌, ◌≤◌, ◌/◌, ◌%◌, ◌+ℤ◌, pos, arith, refl, rules, w64, FitsSigned}
use Rattle.std.proofs.lemmas.Int.{to_z-of_z}
use Rattle.uts_geom.specs.Spans.{index, width_of, height_of, depth_of}
use Rattle.uts_model.proofs.Indexes.{placed, gap_some, gap_near}
use Rattle.uts_model.proofs.grid.index_at.Goals as goal
use Rattle.uts_model.proofs.grid.index_at.Goals.{After-at}

pub width-across-requires-clause-some : goal.width-across-requires-clause-some
width-across-requires-clause-some c =
    let at = placed c.args.s c.args.place c.requires.place in
    let low : FitsSigned w64 c.args.s.lo.x = search rules in
    let high : FitsSigned w64 c.args.s.hi.x = search rules in
    simp to_z-of_z (gap_some c.args.s.lo.x c.args.s.hi.x at.some_width)

pub width-along-requires-clause-some : goal.width-along-requires-clause-some
width-along-requires-clause-some c =
    let at = placed c.args.s c.args.place c.requires.place in
    let low : FitsSigned w64 c.args.s.lo.y = search rules in
    let high : FitsSigned w64 c.args.s.hi.y = search rules in
    simp to_z-of_z (gap_some c.args.s.lo.y c.args.s.hi.y at.some_height)

pub number_above-requires-3-clause-small : goal.number_above-requires-3-clause-small
number_above-requires-3-clause-small c =
    let at = placed c.args.s c.args.place c.requires.place in
    let w : c.width-across.result ≡ width_of c.args.s = grind (arith, to_z-of_z, c.width-across.ensures.width) in
    let h : c.width-along.result ≡ height_of c.args.s = grind (arith, to_z-of_z, c.width-along.ensures.width) in
    let deep : depth_of c.args.s ≤ 131072 = gap_near c.args.s.lo.z c.args.s.hi.z c.requires.near.lo.z c.requires.near.hi.z in
    rw (w, h) (omega (arith, at.below_depth, deep))

-- the index that is given
made : (c : After-at) → c.at.result
    ≡ index (c.args.s.lo.x +ℤ pos (c.args.place % width_of c.args.s)) (c.args.s.lo.y +ℤ pos (c.args.place / width_of c.args.s % height_of c.args.s))
    (c.args.s.lo.z +ℤ pos (c.args.place / width_of c.args.s / height_of c.args.s))
made c =
    let w : c.width-across.result ≡ width_of c.args.s = grind (arith, to_z-of_z, c.width-across.ensures.width) in
    let h : c.width-along.result ≡ height_of c.args.s = grind (arith, to_z-of_z, c.width-along.ensures.width) in
    let low_x : FitsSigned w64 c.args.s.lo.x = search rules in
    let low_y : FitsSigned w64 c.args.s.lo.y = search rules in
    let low_z : FitsSigned w64 c.args.s.lo.z = search rules in
    let to_x : FitsSigned w64 c.number_above.result = search rules in
    let to_y : FitsSigned w64 c.number_above-2.result = search rules in
    let to_z : FitsSigned w64 c.number_above-3.result = search rules in
    let x = simp to_z-of_z at c.number_above.ensures in
    let y = simp to_z-of_z at c.number_above-2.ensures in
    let z = simp to_z-of_z at c.number_above-3.ensures in
    let found = simp to_z-of_z at c.at.ensures in
    rw (found, x, y, z, w, h) refl

pub returns-clause-at : goal.returns-clause-at
returns-clause-at c = rw (made c) (placed c.args.s c.args.place c.requires.place).at

pub returns-clause-inside : goal.returns-clause-inside
returns-clause-inside c = rw (made c) (placed c.args.s c.args.place c.requires.place).inside
