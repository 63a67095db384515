use Rattle.std.proofs.Common.{◌∙◌, ◌<◌, ℤ, List, length, map, take, drop, ap, sym, subst, arith}
use Rattle.field_box.specs.Fields.{NumberedSpan, HoldsAlong, along, number_at}
use Rattle.field_box.proofs.Stretches.{first_inside, stretch_fits, stretch_read}
use Rattle.field_box.proofs.field.Field.stretch.Goals as goal

pub offset_in-begin-requires-clause-inside : goal.offset_in-begin-requires-clause-inside
offset_in-begin-requires-clause-inside c =
    let f = c.self.inside in
    let held : HoldsAlong f.span c.args.first c.args.count = subst (λ (g : NumberedSpan). HoldsAlong g.span c.args.first c.args.count) (sym c.self.view_is) c.requires in
    let some : 0 < c.args.count = omega arith in
    first_inside f.span c.args.first c.args.count held some

pub part-requires : goal.part-requires
part-requires c =
    let f = c.self.inside in
    let held : HoldsAlong f.span c.args.first c.args.count = subst (λ (g : NumberedSpan). HoldsAlong g.span c.args.first c.args.count) (sym c.self.view_is) c.requires in
    omega (
      arith,
      stretch_fits f.span (c.indexes_stand_once.ensures f.span) f.numbers.items c.self.invariant.1 c.offset_in-begin.result c.args.first c.offset_in-begin.ensures c.args.count held,
      ap length c.deref.ensures.value,
    )

pub returns : goal.returns
returns c =
    let f = c.self.inside in
    let held : HoldsAlong f.span c.args.first c.args.count = subst (λ (g : NumberedSpan). HoldsAlong g.span c.args.first c.args.count) (sym c.self.view_is) c.requires in
    c.part.ensures
    ∙ ap (λ (l : List ℤ). take c.args.count (drop c.offset_in-begin.result l)) c.deref.ensures.value
    ∙ stretch_read f.span (c.indexes_stand_once.ensures f.span) f.numbers.items c.self.invariant.1 c.offset_in-begin.result c.args.first c.offset_in-begin.ensures c.args.count held
    ∙ ap (λ (g : NumberedSpan). map (number_at g) (along c.args.first c.args.count)) c.self.view_is
