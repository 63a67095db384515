use Rattle.std.proofs.Common.{◌∙◌, rules, ℤ, pos, ◌+ℤ◌, List, get_or, ap, arith, w64, FitsSigned}
use Rattle.std.proofs.lemmas.Int.{ints, to_z-of_z}
use Rattle.uts_geom.specs.Spans.{IsNearNumber}
use Rattle.kernel_eval.proofs.Rows.{one_value}
use Rattle.kernel_eval.proofs.evaluating.eval.Goals as goal

next_fits : (n : ℤ) → IsNearNumber n → FitsSigned w64 (n +ℤ pos 1)
next_fits n near = grind (arith, ints, near.0, near.1)

pub returns : goal.returns
returns c =
    let i = c.args.i in
    let fits_x : FitsSigned w64 i.x = search rules in
    let fits_y : FitsSigned w64 i.y = search rules in
    let fits_z : FitsSigned w64 i.z = search rules in
    let fits_next : FitsSigned w64 (i.x +ℤ pos 1) = next_fits i.x c.requires.near.x in
    let fits_out : FitsSigned w64 (get_or c.evaluate.new.out 0 (pos 0)) = search rules in
    simp to_z-of_z (
    ap (λ (l : List ℤ). get_or l 0 (pos 0)) ((simp to_z-of_z at c.evaluate.ensures) ∙ one_value c.args.e.now c.args.w.now i))
