use Rattle.std.proofs.Common.{◌≡◌, ◌∙◌, ◌<◌, ◌+◌, ◌++◌, ℤ, List, pos, length, take, drop, ap, sym, subst, arith}
use Rattle.std.specs.Prelude.{slice_index_or, if◌then◌else◌}
use Rattle.std.specs.Int.{int_gap}
use Rattle.std.proofs.lemmas.Bool.{eqb-true, eqb-false}
use Rattle.std.proofs.lemmas.List.{take_at}
use Rattle.uts_geom.specs.declared.index.Index.{Index}
use Rattle.field_box.specs.Fields.{NumberedSpan, HoldsAlong, IsField, is_along, number_at}
use Rattle.field_box.proofs.Stretches.{first_inside, stretch_fits, stretch_set, none_set}
use Rattle.field_box.proofs.field.Field.set_stretch.Goals as goal

pub offset_in-begin-requires-clause-inside : goal.offset_in-begin-requires-clause-inside
offset_in-begin-requires-clause-inside c =
    let f = c.self.inside in
    let count = length c.args.numbers.now in
    let held : HoldsAlong f.span c.args.first count = subst (λ (g : NumberedSpan). HoldsAlong g.span c.args.first count) (sym c.self.view_is) c.requires in
    let some : 0 < count = omega (arith, eqb-false _ _ (sym c.if-is_empty.ensures)) in
    first_inside f.span c.args.first count held some

pub copy_over-requires : goal.copy_over-requires
copy_over-requires c =
    let f = c.self.inside in
    let count = length c.args.numbers.now in
    let held : HoldsAlong f.span c.args.first count = subst (λ (g : NumberedSpan). HoldsAlong g.span c.args.first count) (sym c.self.view_is) c.requires in
    omega (
      arith,
      stretch_fits f.span (c.indexes_stand_once.ensures f.span) f.numbers.items c.self.invariant.1 c.offset_in-begin.result c.args.first c.offset_in-begin.ensures count held,
      ap length c.deref_mut.ensures.value,
    )

pub returns-then-is_empty : goal.returns-then-is_empty
returns-then-is_empty c = none_set c.args.self.now c.args.first c.args.numbers.now (eqb-true _ _ (sym c.if-is_empty.ensures))

pub returns : goal.returns
returns c =
    let f = c.self.inside in
    let part = c.args.numbers.now in
    let first = c.args.first in
    let begin = c.offset_in-begin.result in
    let held : HoldsAlong f.span first (length part) = subst (λ (g : NumberedSpan). HoldsAlong g.span first (length part)) (sym c.self.view_is) c.requires in
    let changed : c.copy_over.new.out ≡ take begin f.numbers.items ++ (part ++ drop (begin + length part) f.numbers.items) =
    c.copy_over.ensures ∙ ap (λ (l : List ℤ). take begin l ++ (part ++ drop (begin + length part) l)) c.deref_mut.ensures.value in
    let long : length c.copy_over.new.out ≡ f.numbers.len = omega (arith, c.copy_over.auto.out, c.deref_mut.ensures.len) in
    let kept : List ℤ = take f.numbers.len (c.copy_over.new.out ++ drop (length c.copy_over.new.out) f.numbers.items) in
    let items : kept ≡ take begin f.numbers.items ++ (part ++ drop (begin + length part) f.numbers.items) =
    take_at c.copy_over.new.out (drop (length c.copy_over.new.out) f.numbers.items) f.numbers.len long ∙ changed in
    let old : NumberedSpan = record { span = f.span; numbers = f.numbers.items } in
    subst (λ (g : NumberedSpan). IsField g.span (λ (i : Index). if is_along first (length part) i then slice_index_or part (int_gap first.x i.x) (pos 0) else number_at g i)
    (record { span = f.span; numbers = kept })) c.self.view_is
    (subst (λ (l : List ℤ). IsField f.span (λ (i : Index). if is_along first (length part) i then slice_index_or part (int_gap first.x i.x) (pos 0) else number_at old i)
    (record { span = f.span; numbers = l })) (sym items)
    (stretch_set f.span (c.indexes_stand_once.ensures f.span) (c.spans_hold_their_indexes.ensures f.span) f.numbers.items part c.self.invariant.1 begin first
    c.offset_in-begin.ensures held))
