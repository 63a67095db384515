use Rattle.std.proofs.Common.{◌∙◌, map, ap}
use Rattle.uts_geom.specs.Spans.{indexes_of}
use Rattle.field_box.specs.Fields.{NumberedSpan, number_at}
use Rattle.field_box.proofs.Stretches.{all_read}
use Rattle.field_box.proofs.field.Field.numbers.Goals as goal

pub returns-clause-numbers : goal.returns-clause-numbers
returns-clause-numbers c =
    let f = c.self.inside in
    c.as_slice.ensures.value
    ∙ all_read f.span (c.indexes_stand_once.ensures f.span) f.numbers.items c.self.invariant.1
    ∙ ap (λ (g : NumberedSpan). map (number_at g) (indexes_of g.span)) c.self.view_is
