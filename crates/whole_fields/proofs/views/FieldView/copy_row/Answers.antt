use Rattle.std.proofs.Common.{◌≡◌, ◌∙◌, ◌+ℤ◌, ℕ, pos, length, map, ap, sym, rules, w64, FitsSigned}
use Rattle.std.proofs.lemmas.Int.{to_z-of_z}
use Rattle.std.proofs.lemmas.List.{length-map, take_at}
use Rattle.uts_geom.specs.Spans.{counted, width_of}
use Rattle.uts_geom.specs.Counting.{length-counted}
use Rattle.whole_fields.specs.Views.{number_in, number_along}
use Rattle.whole_fields.proofs.RowViews.{along_row}
use Rattle.whole_fields.proofs.views.FieldView.copy_row.Goals as goal

pub returns : goal.returns
returns c =
    let field = c.args.self.now in
    let s = field.space in
    let row = c.row.result in
    let fits_low : FitsSigned w64 s.lo.x = search rules in
    let fits_y : FitsSigned w64 c.args.y = c.ranges.y in
    let fits_z : FitsSigned w64 c.args.z = c.ranges.z in
    let along = number_along row.low row.numbers.now row.outside in
    let places : length c.as_mut_slice.result.now ≡ width_of s = c.as_mut_slice.ensures.len ∙ c.in_ok-resize.ensures.len ∙ c.width.ensures.width in
    let filled : c.fill.new.out ≡ map (λ k. along (s.lo.x +ℤ pos k)) (counted 0 (width_of s)) =
    (simp to_z-of_z at c.fill.ensures) ∙ ap (λ (n : ℕ). map (λ k. along (s.lo.x +ℤ pos k)) (counted 0 n)) places in
    let long : length c.fill.new.out ≡ c.resize.new.self.len =
    ap length filled ∙ length-map (counted 0 (width_of s)) (λ k. along (s.lo.x +ℤ pos k)) ∙ length-counted 0 (width_of s) ∙ sym (c.in_ok-resize.ensures.len ∙ c.width.ensures.width) in
    take_at c.fill.new.out _ c.resize.new.self.len long
    ∙ filled ∙ along_row s c.args.y c.args.z along (number_in s field.numbers.now field.blank) (simp to_z-of_z at c.row.ensures)
