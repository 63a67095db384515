use Rattle.std.proofs.Common.{◌≡◌, ◌∙◌, ℤ, pos, ◌+ℤ◌, length, ap, rules, w64, FitsSigned}
use Rattle.std.specs.Prelude.{slice_index_or}
use Rattle.std.proofs.lemmas.Int.{to_z-of_z}
use Rattle.uts_geom.specs.declared.index.Index.{Index}
use Rattle.uts_geom.specs.Spans.{index}
use Rattle.problem_types.specs.Regions.{moved, offset_of}
use Rattle.uts_model.specs.WholeField.{store_of}
use Rattle.whole_fields.specs.Stored.{state_of}
use Rattle.whole_fields.specs.Views.{number_along}
use Rattle.whole_fields.proofs.OnRows.{on_row, moved_along}
use Rattle.whole_fields.proofs.stores.Stores.fill_same.Goals as goal

pub returns : goal.returns
returns c =
    let s = c.args.self.now in
    let row = c.args.row in
    let read = c.args.read.now in
    let along = c.moved_row-along.result in
    let by_x = slice_index_or read.offset 0 (pos 0) in
    let by_y = slice_index_or read.offset 1 (pos 0) in
    let by_z = slice_index_or read.offset 2 (pos 0) in
    let fits_low : FitsSigned w64 row.low = search rules in
    let fits_y : FitsSigned w64 row.y = search rules in
    let fits_z : FitsSigned w64 row.z = search rules in
    let fits_by : FitsSigned w64 by_x = search rules in
    let number = (store_of (state_of s.checked.now s.old.now) (state_of s.checked.now s.new.now) read.store).field read.name s.material s.level in
    let filled = simp to_z-of_z at c.fill_moved.ensures in
    let seen = simp to_z-of_z at c.moved_row-along.ensures in
    filled
    ∙ on_row row (length c.args.out.now) (λ k. number_along along.low along.numbers.now along.outside ((row.low +ℤ by_x) +ℤ pos k))
    (λ i. number (moved i (offset_of read.offset))) c.requires
    (λ k below.
    seen ((row.low +ℤ by_x) +ℤ pos k)
    ∙ c.field-field.ensures.numbers (index ((row.low +ℤ by_x) +ℤ pos k) (row.y +ℤ by_y) (row.z +ℤ by_z))
    ∙ ap (λ (x : ℤ). number (index x (row.y +ℤ by_y) (row.z +ℤ by_z))) (moved_along row.low by_x k))
