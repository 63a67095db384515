use Rattle.std.proofs.Common.{if◌then◌else◌, ◌≡◌, ◌∙◌, ℤ, pos, List, ap, rules, w64, FitsSigned, subst}
use Rattle.std.proofs.lemmas.Int.{to_z-of_z}
use Rattle.whole_fields.specs.Stored.{state_of, stored_field, blank_of}
use Rattle.uts_model.specs.Spaces.{IsSpaceOn}
use Rattle.whole_fields.specs.Views.{number_in}
use Rattle.whole_fields.specs.declared.shapes.Shape.{Shape}
use Rattle.whole_fields.proofs.RowViews.{number_stored}
use Rattle.whole_fields.proofs.warehouse.Warehouse.view.Goals as goal

pub returns-clause-numbers : goal.returns-clause-numbers
unfolding state_of
returns-clause-numbers c =
    let p = c.args.c.now in
    let w = c.args.self.now in
    let name = c.args.name in
    let s = c.space_on.result in
    let fits : FitsSigned w64 c.blank.result = search rules in
    let space = subst (λ (shape : Shape). IsSpaceOn p c.args.level shape.centring s) c.requires.shape c.space_on.ensures.space in
    let blank : c.blank.result ≡ blank_of p w name = c.blank.ensures ∙ ap (λ (shape : Shape). if w.is_before then pos 0 else shape.outside) c.requires.shape in
    λ i.
    ap (λ (b : ℤ). number_in s c.stored.result.now b i) (to_z-of_z w64 c.blank.result fits)
    ∙ ap (λ (numbers : List ℤ). number_in s numbers c.blank.result i) c.stored.ensures
    ∙ number_stored p w name c.args.level s space (c.spans_hold_their_indexes.ensures s) (c.indexes_stand_once.ensures s) c.blank.result blank
    (stored_field p w name c.args.material c.args.level) (c.requires.warehouse.full name c.args.material c.args.level) i
