use Rattle.std.proofs.Common.{◌≡◌, ◌∙◌, ◌<◌, ◌^◌, ℕ, ℤ, pos, ◌+ℤ◌, length, map, ap, rules, arith, w64, FitsSigned}
use Rattle.std.specs.Int.{saturate_signed}
use Rattle.std.proofs.lemmas.Int.{to_z-of_z}
use Rattle.uts_geom.specs.Spans.{counted}
use Rattle.whole_fields.specs.Views.{number_along}
use Rattle.whole_fields.proofs.Lists.{by_place_alike}
use Rattle.whole_fields.proofs.Seen.{along_moved}
use Rattle.whole_fields.proofs.views.FieldRow.fill_moved.Goals as goal

pub returns : goal.returns
returns c =
    let row = c.args.self.now in
    let n = length c.args.out.now in
    let from = c.args.from in
    let by = c.args.by in
    let fits_from : FitsSigned w64 from = c.ranges.from in
    let fits_by : FitsSigned w64 by = c.ranges.by in
    let fits_moved : FitsSigned w64 c.saturating_add.result = search rules in
    let along = number_along row.low row.numbers.now row.outside in
    let short : n < 2 ^ 62 = omega arith in
    (simp to_z-of_z at c.fill.ensures)
    ∙ ap (λ (x : ℤ). map (λ k. along (x +ℤ pos k)) (counted 0 n)) (simp to_z-of_z at c.saturating_add.ensures)
    ∙ by_place_alike (λ k. along (saturate_signed w64 (from +ℤ by) +ℤ pos k)) (λ k. along ((from +ℤ by) +ℤ pos k)) n (pos 0)
    (λ k below. along_moved row.low row.numbers.now row.outside row.near row.short (from +ℤ by) k (omega arith))
