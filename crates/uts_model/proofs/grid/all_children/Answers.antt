use Rattle.std.proofs.Common.{rules, w64, FitsSigned, refl}
use Rattle.std.proofs.lemmas.Int.{to_z-of_z}
use Rattle.uts_model.proofs.grid.all_children.Goals as goal

pub returns : goal.returns
returns c =
    let ratio : FitsSigned w64 c.args.ratio = search rules in
    let x : FitsSigned w64 c.args.i.x = search rules in
    let y : FitsSigned w64 c.args.i.y = search rules in
    let z : FitsSigned w64 c.args.i.z = search rules in
    let low_x : FitsSigned w64 c.first_child.result = search rules in
    let low_y : FitsSigned w64 c.first_child-2.result = search rules in
    let low_z : FitsSigned w64 c.first_child-3.result = search rules in
    let high_x : FitsSigned w64 c.children_end.result = search rules in
    let high_y : FitsSigned w64 c.children_end-2.result = search rules in
    let high_z : FitsSigned w64 c.children_end-3.result = search rules in
    let low = simp to_z-of_z at c.at.ensures in
    let high = simp to_z-of_z at c.at-2.ensures in
    let first_x = simp to_z-of_z at c.first_child.ensures in
    let first_y = simp to_z-of_z at c.first_child-2.ensures in
    let first_z = simp to_z-of_z at c.first_child-3.ensures in
    let end_x = simp to_z-of_z at c.children_end.ensures in
    let end_y = simp to_z-of_z at c.children_end-2.ensures in
    let end_z = simp to_z-of_z at c.children_end-3.ensures in
    rw (low, high, first_x, first_y, first_z, end_x, end_y, end_z, c.point_like.ensures, c.point_like-2.ensures, c.point_like-3.ensures) refl
