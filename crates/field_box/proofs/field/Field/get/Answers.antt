use Rattle.std.proofs.Common.{◌∙◌, ℤ, List, pos, length, ap, sym, rules, arith, w64, FitsSigned}
use Rattle.std.specs.Prelude.{slice_index_or}
use Rattle.std.proofs.lemmas.Int.{to_z-of_z}
use Rattle.std.proofs.lemmas.Option.{slice_get_within}
use Rattle.uts_geom.specs.Spans.{indexes_of}
use Rattle.field_box.specs.Fields.{NumberedSpan, number_at}
use Rattle.field_box.proofs.Places.{number_at_place}
use Rattle.field_box.proofs.field.Field.get.Goals as goal

pub number-requires : goal.number-requires
number-requires c =
    let f = c.self.inside in
    omega (arith, slice_get_within (indexes_of f.span) c.offset_in.result _ c.offset_in.ensures, c.self.invariant.1, ap length c.deref.ensures.value)

pub returns : goal.returns
returns c =
    let f = c.self.inside in
    let fits : FitsSigned w64 c.number.result = search rules in
    to_z-of_z w64 c.number.result fits
    ∙ c.number.ensures
    ∙ ap (λ (l : List ℤ). slice_index_or l c.offset_in.result (pos 0)) c.deref.ensures.value
    ∙ sym (number_at_place f.span (c.indexes_stand_once.ensures f.span) f.numbers.items c.offset_in.result c.args.i c.offset_in.ensures)
    ∙ ap (λ (g : NumberedSpan). number_at g c.args.i) c.self.view_is
