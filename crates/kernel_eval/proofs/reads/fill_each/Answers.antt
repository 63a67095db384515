use Rattle.std.proofs.Common.{◌≡◌, ◌≢◌, ◌∙◌, ◌<◌, ◌+◌, rules, ℕ, ℤ, pos, ◌+ℤ◌, length, ap, arith, w64, to_z, FitsSigned, get_or-set_other, get_or-set_same, below_more}
use Rattle.std.specs.Int.{int_gap}
use Rattle.std.proofs.lemmas.Int.{ints, to_z-of_z}
use Rattle.uts_geom.specs.Spans.{index}
use Rattle.kernel_eval.specs.Environments.{number_in_part}
use Rattle.kernel_eval.proofs.Rows.{listed_along}
use Rattle.kernel_eval.proofs.reads.fill_each.Goals as goal

next_fits : (low high x : ℤ) (p : ℕ) → x ≡ low +ℤ pos p → p < int_gap low high → FitsSigned w64 low → FitsSigned w64 high → FitsSigned w64 (x +ℤ pos 1)
next_fits low high x p at below fits_low fits_high = grind (arith, ints)

next_at : (low x : ℤ) (p : ℕ) → x ≡ low +ℤ pos p → x +ℤ pos 1 ≡ low +ℤ pos (p + 1)
next_at low x p at = omega (arith, ints, at)

pub loop-place-preserved : goal.loop-place-preserved
loop-place-preserved c =
    let row = c.args.row in
    let part = c.args.part.now in
    let read = c.args.read.now in
    let place = c.loop-place.place-index in
    let at : to_z w64 c.loop-place.x-bits ≡ row.low +ℤ pos place = c.loop-place.invariant.next in
    let fits_y : FitsSigned w64 row.y = search rules in
    let fits_z : FitsSigned w64 row.z = search rules in
    let fits_low : FitsSigned w64 row.low = search rules in
    let fits_high : FitsSigned w64 row.high = search rules in
    let within : place < int_gap row.low row.high = omega (arith, c.requires) in
    let fits_next : FitsSigned w64 (to_z w64 c.loop-place.x-bits +ℤ pos 1) = next_fits row.low row.high (to_z w64 c.loop-place.x-bits) place at within fits_low fits_high in
    let fits_new : FitsSigned w64 c.number_in_part.result = search rules in
    let number : c.number_in_part.result ≡ number_in_part part read.how read.offset (index (row.low +ℤ pos place) row.y row.z) =
    (simp to_z-of_z at c.number_in_part.ensures) ∙ ap (λ (x : ℤ). number_in_part part read.how read.offset (index x row.y row.z)) at in
    record {
      next = simp to_z-of_z (next_at row.low (to_z w64 c.loop-place.x-bits) place at);
      written = below_more _ _
          (λ k h. let other : k ≢ place = omega arith in rw get_or-set_other (c.loop-place.invariant.written k h))
          (let within : place < length c.loop-place.out = omega arith in rw get_or-set_same (simp to_z-of_z number));
    }

pub returns : goal.returns
returns c =
    let part = c.args.part.now in
    let read = c.args.read.now in
    listed_along c.args.row (number_in_part part read.how read.offset) c.loop-place.out (omega (arith, c.requires))
    (λ k below. c.loop-place.invariant.written k (omega arith))
