use Rattle.std.proofs.Common.{◌≡◌, ◌∙◌, ◌-◌, ℕ, ℤ, pos, ◌+ℤ◌, length, ap, rules, w64, FitsSigned}
use Rattle.std.specs.Prelude.{slice_index_or}
use Rattle.std.specs.Int.{int_div_euclid}
use Rattle.std.proofs.lemmas.Int.{to_z-of_z}
use Rattle.uts_geom.specs.declared.index.Index.{Index}
use Rattle.uts_geom.specs.Spans.{index}
use Rattle.problem_types.specs.Regions.{moved, offset_of, coarse_index, ratio_of}
use Rattle.uts_model.specs.WholeField.{store_of}
use Rattle.whole_fields.specs.Stored.{state_of}
use Rattle.whole_fields.specs.Views.{number_along}
use Rattle.whole_fields.proofs.OnRows.{on_row}
use Rattle.whole_fields.proofs.stores.Stores.fill_coarse.Goals as goal

pub returns : goal.returns
returns c =
    let s = c.args.self.now in
    let row = c.args.row in
    let read = c.args.read.now in
    let along = c.moved_row-along.result in
    let ratio = c.ratio_on-ratio.result in
    let by_x = slice_index_or read.offset 0 (pos 0) in
    let by_y = slice_index_or read.offset 1 (pos 0) in
    let by_z = slice_index_or read.offset 2 (pos 0) in
    let fits_y : FitsSigned w64 row.y = search rules in
    let fits_z : FitsSigned w64 row.z = search rules in
    let fits_by : FitsSigned w64 by_x = search rules in
    let fits_coarse_y : FitsSigned w64 c.coarse.result = search rules in
    let fits_coarse_z : FitsSigned w64 c.coarse-2.result = search rules in
    let number : ℕ → Index → ℤ =
    (store_of (state_of s.checked.now s.old.now) (state_of s.checked.now s.new.now) read.store).field read.name s.material in
    let filled = simp to_z-of_z at c.fill_coarse.ensures in
    let seen = simp to_z-of_z at c.moved_row-along.ensures in
    let on_y : c.coarse.result ≡ int_div_euclid row.y (pos ratio) = simp to_z-of_z at c.coarse.ensures in
    let on_z : c.coarse-2.result ≡ int_div_euclid row.z (pos ratio) = simp to_z-of_z at c.coarse-2.ensures in
    let x : ℕ → ℤ = λ k. int_div_euclid (row.low +ℤ pos k) (pos ratio) +ℤ by_x in
    filled
    ∙ on_row row (length c.args.out.now) (λ k. number_along along.low along.numbers.now along.outside (x k))
    (λ i. number (s.level - 1) (moved (coarse_index (ratio_of s.checked.now s.level) i) (offset_of read.offset))) c.requires
    (λ k below.
    seen (x k)
    ∙ c.field-field.ensures.numbers (index (x k) (c.coarse.result +ℤ by_y) (c.coarse-2.result +ℤ by_z))
    ∙ ap (λ (y : ℤ). number c.saturating_sub.result (index (x k) (y +ℤ by_y) (c.coarse-2.result +ℤ by_z))) on_y
    ∙ ap (λ (z : ℤ). number c.saturating_sub.result (index (x k) (int_div_euclid row.y (pos ratio) +ℤ by_y) (z +ℤ by_z))) on_z
    ∙ ap (λ (r : ℕ). number c.saturating_sub.result (moved (coarse_index r (index (row.low +ℤ pos k) row.y row.z)) (offset_of read.offset))) c.ratio_on-ratio.ensures.ratio
    ∙ ap (λ (level : ℕ). number level (moved (coarse_index (ratio_of s.checked.now s.level) (index (row.low +ℤ pos k) row.y row.z)) (offset_of read.offset)))
    c.saturating_sub.ensures)
