use Rattle.std.proofs.Common.{◌∙◌, ap, sym, rules, w64, FitsSigned, ℤ, List}
use Rattle.std.proofs.lemmas.Bool.{eqb-true}
use Rattle.std.proofs.lemmas.Int.{to_z-of_z}
use Rattle.std.proofs.lemmas.List.{nil_from_length}
use Rattle.uts_geom.specs.Spans.{index}
use Rattle.whole_fields.specs.Views.{number_in}
use Rattle.whole_fields.proofs.RowViews.{number_of_none, number_outside, row_outside}
use Rattle.whole_fields.proofs.views.FieldView.place.Goals as goal
use Rattle.whole_fields.proofs.views.FieldView.place.Goals.{then-is_empty-via-then-is_empty, then-is_empty-via-else-is_empty+then-not-contains}

pub returns-then-is_empty-clause-none : goal.returns-then-is_empty-clause-none
returns-then-is_empty-clause-none c =
    let field = c.args.self.now in
    let y = c.args.y in
    let z = c.args.z in
    let fits_x : FitsSigned w64 field.space.lo.x = search rules in
    let fits_y : FitsSigned w64 y = c.ranges.y in
    let fits_z : FitsSigned w64 z = c.ranges.z in
    let holds = c.spans_hold_their_indexes.ensures field.space in
    λ x. elim c.then-is_empty.branch [
      | then-is_empty-via-then-is_empty w ↦
          let none = nil_from_length field.numbers.now (eqb-true _ _ (sym w.if-is_empty.ensures)) in
          ap (λ (numbers : List ℤ). number_in field.space numbers field.blank (index x y z)) none ∙ number_of_none field.space holds field.blank (index x y z)
      | then-is_empty-via-else-is_empty+then-not-contains w ↦
          let outside = simp to_z-of_z at (sym w.if-not-contains.ensures) in
          number_outside field.space holds field.numbers.now field.blank (index x y z) (row_outside field.space y z outside x)
    ]
