use Rattle.std.proofs.Common.{◌≡◌, ◌∙◌, List, map, ap, sym, w64, FitsSigned}
use Rattle.std.specs.List.{flat_map}
use Rattle.std.proofs.lemmas.Int.{to_z-of_z}
use Rattle.std.proofs.lemmas.Result.{on_ok_weaker}
use Rattle.uts_geom.specs.Spans.{row_indexes}
use Rattle.uts_geom.specs.declared.index.Index.{Index}
use Rattle.problem_types.specs.Lists.{centring_of}
use Rattle.problem_types.specs.Regions.{spaces_of}
use Rattle.whole_fields.specs.Stored.{state_of}
use Rattle.whole_fields.specs.Views.{number_in}
use Rattle.whole_fields.proofs.Lists.{map-flat_map, map_alike}
use Rattle.whole_fields.proofs.warehouse.Warehouse.copy_row.Goals as goal

pub returns : goal.returns
returns c =
    let p = c.args.c.now in
    let field = c.view-field.result in
    let y = c.args.y in
    let z = c.args.z in
    let fits_y : FitsSigned w64 y = c.ranges.y in
    let fits_z : FitsSigned w64 z = c.ranges.z in
    let number = (state_of p c.args.self.now).field c.args.name c.args.material c.args.level in
    let copied = simp to_z-of_z at c.copy_row.ensures in
    let same : map (number_in field.space field.numbers.now field.blank) (row_indexes field.space y z)
    ≡ flat_map (λ s. map number (row_indexes s y z)) (spaces_of p c.args.level (centring_of p c.args.name)) =
    map_alike (number_in field.space field.numbers.now field.blank) number (row_indexes field.space y z) c.view-field.ensures.numbers
    ∙ ap (λ (indexes : List Index). map number indexes) (sym (c.view-field.ensures.space.rows y z))
    ∙ map-flat_map number (λ s. row_indexes s y z) (spaces_of p c.args.level (centring_of p c.args.name)) in
    on_ok_weaker c.copy_row.result (λ is. is ∙ same) copied
