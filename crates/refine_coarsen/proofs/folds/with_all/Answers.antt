use Rattle.std.proofs.Common.{rules, ℤ, pos, ◌+ℤ◌, ◌<ℤ◌, ◌≤ℤ◌, List, w64, to_z, FitsSigned, arith}
use Rattle.std.specs.List.{flat_map}
use Rattle.std.proofs.lemmas.Int.{ints, to_z-of_z}
use Rattle.uts_geom.specs.Spans.{from_to, row_indexes}
use Rattle.uts_geom.specs.declared.index.Index.{Index}
use Rattle.uts_geom.specs.declared.span.Span.{Span}
use Rattle.refine_coarsen.proofs.Adding.{none_combined, more_combined, all_combined}
use Rattle.refine_coarsen.proofs.folds.with_all.Goals as goal

abbrev piece_of : Span → ℤ → List Index
piece_of s z = flat_map (λ y. row_indexes s y z) (from_to s.lo.y s.hi.y)

pub loop-z-init : goal.loop-z-init
loop-z-init c =
    let fits : FitsSigned w64 c.args.before = c.ranges.before in
    let fits_low : FitsSigned w64 c.args.s.lo.z = search rules in
    simp to_z-of_z (none_combined c.args.how c.args.w.now c.args.before c.args.s.lo.z c.args.s.hi.z (piece_of c.args.s))

pub loop-z-preserved : goal.loop-z-preserved
loop-z-preserved c =
    let at = to_z w64 c.loop-z.z-bits in
    let fits : FitsSigned w64 c.args.before = c.ranges.before in
    let fits_high : FitsSigned w64 c.args.s.hi.z = search rules in
    let fits_new : FitsSigned w64 c.with_plane-all.result = search rules in
    let test = simp to_z-of_z at c.loop-z-test.true in
    let below : at <ℤ c.args.s.hi.z = grind (arith, ints, test) in
    let fits_next : FitsSigned w64 (at +ℤ pos 1) = grind (arith, ints, below, fits_high) in
    simp to_z-of_z (more_combined c.args.how c.args.w.now c.args.before c.args.s.lo.z c.args.s.hi.z (piece_of c.args.s) at (to_z w64 c.loop-z.all-bits) c.with_plane-all.result below
    (simp to_z-of_z at c.loop-z.invariant) c.with_plane-all.ensures)

pub returns : goal.returns
returns c =
    let fits : FitsSigned w64 c.args.before = c.ranges.before in
    let at = to_z w64 c.loop-z.z-bits in
    let fits_high : FitsSigned w64 c.args.s.hi.z = search rules in
    let test = simp to_z-of_z at c.loop-z-test.false in
    let end : c.args.s.hi.z ≤ℤ at = grind (arith, ints, test) in
    all_combined c.args.how c.args.w.now c.args.before c.args.s.lo.z c.args.s.hi.z (piece_of c.args.s) at (to_z w64 c.loop-z.all-bits) end (simp to_z-of_z at c.loop-z.invariant)
