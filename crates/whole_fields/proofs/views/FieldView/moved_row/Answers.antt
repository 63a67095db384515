use Rattle.std.proofs.Common.{◌≡◌, ◌∙◌, ℤ, pos, ◌+ℤ◌, ap, rules, w64, FitsSigned}
use Rattle.std.specs.Prelude.{slice_index_or}
use Rattle.std.proofs.lemmas.Int.{to_z-of_z}
use Rattle.uts_geom.specs.Spans.{index}
use Rattle.whole_fields.specs.Views.{number_in}
use Rattle.whole_fields.proofs.Seen.{in_row_saturated}
use Rattle.whole_fields.proofs.views.FieldView.moved_row.Goals as goal

pub returns : goal.returns
returns c =
    let field = c.args.self.now in
    let by_y = slice_index_or c.args.by 1 (pos 0) in
    let by_z = slice_index_or c.args.by 2 (pos 0) in
    let number : ℤ → ℤ → ℤ → ℤ = λ x y z. number_in field.space field.numbers.now field.blank (index x y z) in
    let fits_y : FitsSigned w64 c.args.y = c.ranges.y in
    let fits_z : FitsSigned w64 c.args.z = c.ranges.z in
    let fits_by_y : FitsSigned w64 by_y = search rules in
    let fits_by_z : FitsSigned w64 by_z = search rules in
    let fits_moved_y : FitsSigned w64 c.saturating_add.result = search rules in
    let fits_moved_z : FitsSigned w64 c.saturating_add-2.result = search rules in
    let row = simp to_z-of_z at c.row.ensures in
    let moved_y = simp to_z-of_z at c.saturating_add.ensures in
    let moved_z = simp to_z-of_z at c.saturating_add-2.ensures in
    λ x.
    row x
    ∙ ap (λ (y : ℤ). number x y c.saturating_add-2.result) moved_y
    ∙ ap (number x _) moved_z
    ∙ in_row_saturated field.space (c.spans_hold_their_indexes.ensures field.space) field.near field.numbers.now field.blank x (c.args.y +ℤ by_y) (c.args.z +ℤ by_z)
