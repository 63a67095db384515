use Rattle.std.proofs.Common.{rules, pos, w64, FitsSigned, slice_index_or}
use Rattle.std.proofs.lemmas.Int.{to_z-of_z}
use Rattle.uts_model.proofs.Far.{same_or_far}
use Rattle.uts_model.proofs.grid.moved.Goals as goal

pub returns : goal.returns
returns c =
    let x : FitsSigned w64 c.args.i.x = search rules in
    let y : FitsSigned w64 c.args.i.y = search rules in
    let z : FitsSigned w64 c.args.i.z = search rules in
    let by_x : FitsSigned w64 (slice_index_or c.args.by 0 (pos 0)) = search rules in
    let by_y : FitsSigned w64 (slice_index_or c.args.by 1 (pos 0)) = search rules in
    let by_z : FitsSigned w64 (slice_index_or c.args.by 2 (pos 0)) = search rules in
    let to_x : FitsSigned w64 c.moved_along.result = search rules in
    let to_y : FitsSigned w64 c.moved_along-2.result = search rules in
    let to_z : FitsSigned w64 c.moved_along-3.result = search rules in
    let made = simp to_z-of_z at c.at.ensures in
    rw made
    (same_or_far c.moved_along.result c.moved_along-2.result c.moved_along-3.result _ _ _
    (simp to_z-of_z at c.moved_along.ensures) (simp to_z-of_z at c.moved_along-2.ensures)
    (simp to_z-of_z at c.moved_along-3.ensures))
