use Rattle.std.proofs.Common.{◌∙◌, ap, rules, ℤ, pos, ◌+ℤ◌, ◌<ℤ◌, ◌≤ℤ◌, List, [], ◌∷◌, w64, to_z, FitsSigned, arith}
use Rattle.std.proofs.lemmas.Int.{ints, to_z-of_z}
use Rattle.std.proofs.lemmas.List.Concat.{flat_map_single}
use Rattle.uts_geom.specs.Spans.{index, from_to}
use Rattle.uts_geom.specs.declared.index.Index.{Index}
use Rattle.uts_geom.specs.declared.span.Span.{Span}
use Rattle.refine_coarsen.specs.FineFolds.{with_indexes}
use Rattle.refine_coarsen.proofs.Adding.{none_combined, more_combined, all_combined}
use Rattle.refine_coarsen.proofs.folds.with_row.Goals as goal

abbrev piece_of : Span → (y z : ℤ) → ℤ → List Index
piece_of s y z x = index x y z ∷ []

pub loop-x-init : goal.loop-x-init
loop-x-init c =
    let fits : FitsSigned w64 c.args.before = c.ranges.before in
    let fits_low : FitsSigned w64 c.args.s.lo.x = search rules in
    let fits_y : FitsSigned w64 c.args.y = c.ranges.y in
    let fits_z : FitsSigned w64 c.args.z = c.ranges.z in
    simp to_z-of_z (none_combined c.args.how c.args.w.now c.args.before c.args.s.lo.x c.args.s.hi.x (piece_of c.args.s c.args.y c.args.z))

pub loop-x-preserved : goal.loop-x-preserved
loop-x-preserved c =
    let at = to_z w64 c.loop-x.x-bits in
    let fits : FitsSigned w64 c.args.before = c.ranges.before in
    let fits_high : FitsSigned w64 c.args.s.hi.x = search rules in
    let fits_y : FitsSigned w64 c.args.y = c.ranges.y in
    let fits_z : FitsSigned w64 c.args.z = c.ranges.z in
    let fits_new : FitsSigned w64 c.with_index-all.result = search rules in
    let test = simp to_z-of_z at c.loop-x-test.true in
    let below : at <ℤ c.args.s.hi.x = grind (arith, ints, test) in
    let fits_next : FitsSigned w64 (at +ℤ pos 1) = grind (arith, ints, below, fits_high) in
    simp to_z-of_z (more_combined c.args.how c.args.w.now c.args.before c.args.s.lo.x c.args.s.hi.x (piece_of c.args.s c.args.y c.args.z) at (to_z w64 c.loop-x.all-bits) c.with_index-all.result below
    (simp to_z-of_z at c.loop-x.invariant) (simp to_z-of_z at c.with_index-all.ensures))

pub returns : goal.returns
returns c =
    let fits : FitsSigned w64 c.args.before = c.ranges.before in
    let fits_y : FitsSigned w64 c.args.y = c.ranges.y in
    let fits_z : FitsSigned w64 c.args.z = c.ranges.z in
    let at = to_z w64 c.loop-x.x-bits in
    let fits_high : FitsSigned w64 c.args.s.hi.x = search rules in
    let test = simp to_z-of_z at c.loop-x-test.false in
    let end : c.args.s.hi.x ≤ℤ at = grind (arith, ints, test) in
    all_combined c.args.how c.args.w.now c.args.before c.args.s.lo.x c.args.s.hi.x (piece_of c.args.s c.args.y c.args.z) at (to_z w64 c.loop-x.all-bits) end (simp to_z-of_z at c.loop-x.invariant)
    ∙ ap (with_indexes c.args.how c.args.w.now c.args.before) (flat_map_single (λ (x : ℤ). index x c.args.y c.args.z) (from_to c.args.s.lo.x c.args.s.hi.x))
