use Rattle.std.proofs.Common.{rules, ℤ, pos, ◌+ℤ◌, ◌<ℤ◌, ◌≤ℤ◌, List, w64, to_z, FitsSigned, arith}
use Rattle.std.proofs.lemmas.Int.{ints, to_z-of_z}
use Rattle.uts_geom.specs.Spans.{row_indexes}
use Rattle.uts_geom.specs.declared.index.Index.{Index}
use Rattle.uts_geom.specs.declared.span.Span.{Span}
use Rattle.refine_coarsen.proofs.Adding.{none_combined, more_combined, all_combined}
use Rattle.refine_coarsen.proofs.folds.with_plane.Goals as goal

abbrev piece_of : Span → (z : ℤ) → ℤ → List Index
piece_of s z y = row_indexes s y z

pub loop-y-init : goal.loop-y-init
loop-y-init c =
    let fits : FitsSigned w64 c.args.before = c.ranges.before in
    let fits_low : FitsSigned w64 c.args.s.lo.y = search rules in
    let fits_z : FitsSigned w64 c.args.z = c.ranges.z in
    simp to_z-of_z (none_combined c.args.how c.args.w.now c.args.before c.args.s.lo.y c.args.s.hi.y (piece_of c.args.s c.args.z))

pub loop-y-preserved : goal.loop-y-preserved
loop-y-preserved c =
    let at = to_z w64 c.loop-y.y-bits in
    let fits : FitsSigned w64 c.args.before = c.ranges.before in
    let fits_high : FitsSigned w64 c.args.s.hi.y = search rules in
    let fits_z : FitsSigned w64 c.args.z = c.ranges.z in
    let fits_new : FitsSigned w64 c.with_row-all.result = search rules in
    let test = simp to_z-of_z at c.loop-y-test.true in
    let below : at <ℤ c.args.s.hi.y = grind (arith, ints, test) in
    let fits_next : FitsSigned w64 (at +ℤ pos 1) = grind (arith, ints, below, fits_high) in
    simp to_z-of_z (more_combined c.args.how c.args.w.now c.args.before c.args.s.lo.y c.args.s.hi.y (piece_of c.args.s c.args.z) at (to_z w64 c.loop-y.all-bits) c.with_row-all.result below
    (simp to_z-of_z at c.loop-y.invariant) (simp to_z-of_z at c.with_row-all.ensures))

pub returns : goal.returns
returns c =
    let fits : FitsSigned w64 c.args.before = c.ranges.before in
    let fits_z : FitsSigned w64 c.args.z = c.ranges.z in
    let at = to_z w64 c.loop-y.y-bits in
    let fits_high : FitsSigned w64 c.args.s.hi.y = search rules in
    let test = simp to_z-of_z at c.loop-y-test.false in
    let end : c.args.s.hi.y ≤ℤ at = grind (arith, ints, test) in
    all_combined c.args.how c.args.w.now c.args.before c.args.s.lo.y c.args.s.hi.y (piece_of c.args.s c.args.z) at (to_z w64 c.loop-y.all-bits) end (simp to_z-of_z at c.loop-y.invariant)
