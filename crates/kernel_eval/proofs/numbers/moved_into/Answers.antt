use Rattle.std.proofs.Common.{◌≡◌, ◌∙◌, rules, ℤ, pos, ◌+ℤ◌, ap, sym, w64, FitsSigned, slice_index_or}
use Rattle.std.proofs.lemmas.Int.{to_z-of_z}
use Rattle.uts_geom.specs.Spans.{index, is_inside}
use Rattle.problem_types.specs.Regions.{moved, offset_of}
use Rattle.kernel_eval.proofs.Saturating.{saturated, saturated_index, same_inside, same_index}
use Rattle.kernel_eval.proofs.numbers.moved_into.Goals as goal
use Rattle.kernel_eval.proofs.numbers.moved_into.Goals.{After-contains}

made : (c : After-contains) → index c.moved_along.result c.moved_along-2.result c.moved_along-3.result ≡ saturated_index (moved c.args.i (offset_of c.args.by))
made c =
    let fits_x : FitsSigned w64 c.args.i.x = search rules in
    let fits_y : FitsSigned w64 c.args.i.y = search rules in
    let fits_z : FitsSigned w64 c.args.i.z = search rules in
    let by_x : FitsSigned w64 (slice_index_or c.args.by 0 (pos 0)) = search rules in
    let by_y : FitsSigned w64 (slice_index_or c.args.by 1 (pos 0)) = search rules in
    let by_z : FitsSigned w64 (slice_index_or c.args.by 2 (pos 0)) = search rules in
    let x = simp to_z-of_z at c.moved_along.ensures in
    let y = simp to_z-of_z at c.moved_along-2.ensures in
    let z = simp to_z-of_z at c.moved_along-3.ensures in
    ap (λ (n : ℤ). index n c.moved_along-2.result c.moved_along-3.result) x
    ∙ ap (λ (n : ℤ). index (saturated (c.args.i.x +ℤ slice_index_or c.args.by 0 (pos 0))) n c.moved_along-3.result) y
    ∙ ap (λ (n : ℤ). index (saturated (c.args.i.x +ℤ slice_index_or c.args.by 0 (pos 0))) (saturated (c.args.i.y +ℤ slice_index_or c.args.by 1 (pos 0))) n) z

tested : (c : After-contains) → c.contains.result ≡ is_inside c.args.s (moved c.args.i (offset_of c.args.by))
tested c =
    let to_x : FitsSigned w64 c.moved_along.result = search rules in
    let to_y : FitsSigned w64 c.moved_along-2.result = search rules in
    let to_z : FitsSigned w64 c.moved_along-3.result = search rules in
    (simp to_z-of_z at c.contains.ensures) ∙ ap (is_inside c.args.s) (made c) ∙ same_inside c.args.s (moved c.args.i (offset_of c.args.by)) c.requires

pub returns-then-contains-clause-some : goal.returns-then-contains-clause-some
returns-then-contains-clause-some c =
    let before = (goal.at.returns-then-contains-clause-some c).After-contains in
    let to_x : FitsSigned w64 c.moved_along.result = search rules in
    let to_y : FitsSigned w64 c.moved_along-2.result = search rules in
    let to_z : FitsSigned w64 c.moved_along-3.result = search rules in
    simp to_z-of_z (made before ∙ same_index c.args.s (moved c.args.i (offset_of c.args.by)) c.requires (sym (tested before) ∙ c.if-contains.true))

pub returns-else-contains-clause-none : goal.returns-else-contains-clause-none
returns-else-contains-clause-none c =
    let before = (goal.at.returns-else-contains-clause-none c).After-contains in
    sym (tested before) ∙ c.if-contains.false
