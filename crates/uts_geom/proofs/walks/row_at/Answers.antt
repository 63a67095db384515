use Rattle.std.proofs.Common.{arith, ◌≡◌, ◌<◌, ◌≤◌, ◌%◌, ◌/◌, pos, ◌+ℤ◌, w64, to_z, of_z}
use Rattle.std.proofs.lemmas.Int.{ints, to_z-of_z}
use Rattle.uts_geom.specs.Spans.{height_of, depth_of}
use Rattle.uts_geom.proofs.Walking.{row_with, gap_near}
use Rattle.uts_geom.proofs.walks.row_at.Goals as goal

pub nonzero_rem-y : goal.nonzero_rem-y
nonzero_rem-y c =
    let row = row_with c.args.s c.args.k c.requires.below in
    let h : c.extent-height.result ≡ height_of c.args.s = grind (arith, to_z-of_z, c.extent-height.ensures.extent) in
    omega (arith, row.below_height, h)

pub overflow_cast-y : goal.overflow_cast-y
overflow_cast-y c =
    let some : 0 < c.extent-height.result = nonzero_rem-y c in
    let small : c.args.k % c.extent-height.result < 131072 = omega (arith, c.extent-height.ensures.small) in
    first_of (omega (arith, ints), grind (arith, ints))

pub nonzero_div-z : goal.nonzero_div-z
nonzero_div-z c = nonzero_rem-y c

pub overflow_cast-z : goal.overflow_cast-z
overflow_cast-z c =
    let row = row_with c.args.s c.args.k c.requires.below in
    let h : c.extent-height.result ≡ height_of c.args.s = grind (arith, to_z-of_z, c.extent-height.ensures.extent) in
    let deep : depth_of c.args.s ≤ 131072 = gap_near c.args.s.lo.z c.args.s.hi.z c.requires.near.lo.z c.requires.near.hi.z in
    let small : c.args.k / c.extent-height.result < 131072 = rw h (omega (arith, row.below_depth)) in
    first_of (omega (arith, ints), grind (arith, ints))

pub overflow_add-result : goal.overflow_add-result
overflow_add-result c =
    let row = row_with c.args.s c.args.k c.requires.below in
    let h : c.extent-height.result ≡ height_of c.args.s = grind (arith, to_z-of_z, c.extent-height.ensures.extent) in
    let some : 0 < c.extent-height.result = omega (arith, row.below_height, h) in
    let small : c.args.k % c.extent-height.result < 131072 = omega (arith, c.extent-height.ensures.small) in
    let near = c.requires.near.lo.y in
    first_of (omega (arith, ints, near.0, near.1), grind (arith, ints))

pub overflow_add-result-2 : goal.overflow_add-result-2
overflow_add-result-2 c =
    let row = row_with c.args.s c.args.k c.requires.below in
    let h : c.extent-height.result ≡ height_of c.args.s = grind (arith, to_z-of_z, c.extent-height.ensures.extent) in
    let deep : depth_of c.args.s ≤ 131072 = gap_near c.args.s.lo.z c.args.s.hi.z c.requires.near.lo.z c.requires.near.hi.z in
    let small : c.args.k / c.extent-height.result < 131072 = rw h (omega (arith, row.below_depth)) in
    let near = c.requires.near.lo.z in
    first_of (omega (arith, ints, near.0, near.1), grind (arith, ints))

pub returns : goal.returns
returns c =
    let row = row_with c.args.s c.args.k c.requires.below in
    let h : c.extent-height.result ≡ height_of c.args.s = grind (arith, to_z-of_z, c.extent-height.ensures.extent) in
    let deep : depth_of c.args.s ≤ 131072 = gap_near c.args.s.lo.z c.args.s.hi.z c.requires.near.lo.z c.requires.near.hi.z in
    let small_z : c.args.k / c.extent-height.result < 131072 = rw h (omega (arith, row.below_depth)) in
    let some : 0 < c.extent-height.result = omega (arith, row.below_height, h) in
    let small_y : c.args.k % c.extent-height.result < 131072 = omega (arith, c.extent-height.ensures.small) in
    let near_y = c.requires.near.lo.y in
    let near_z = c.requires.near.lo.z in
    let y : to_z w64 (of_z w64 (to_z w64 (of_z w64 c.args.s.lo.y) +ℤ to_z w64 (c.args.k % c.extent-height.result))) ≡ c.args.s.lo.y +ℤ pos (c.args.k % c.extent-height.result) =
    first_of (omega (arith, ints, near_y.0, near_y.1), grind (arith, ints)) in
    let z : to_z w64 (of_z w64 (to_z w64 (of_z w64 c.args.s.lo.z) +ℤ to_z w64 (c.args.k / c.extent-height.result))) ≡ c.args.s.lo.z +ℤ pos (c.args.k / c.extent-height.result) =
    first_of (omega (arith, ints, near_z.0, near_z.1), grind (arith, ints)) in
    rw (y, z, h) row.at
