use Rattle.std.proofs.Common.{◌≡◌, ◌∙◌, ℤ, List, ◌++◌, length, take, drop, set, ap, sym, subst, arith, w64, FitsSigned}
use Rattle.std.specs.Prelude.{if◌then◌else◌}
use Rattle.std.proofs.lemmas.Int.{to_z-of_z}
use Rattle.std.proofs.lemmas.List.{take_at}
use Rattle.std.proofs.lemmas.Option.{slice_get_within}
use Rattle.uts_geom.specs.declared.index.Index.{Index}
use Rattle.uts_geom.specs.Spans.{indexes_of}
use Rattle.uts_geom.specs.SameIndexes.{is_same_index}
use Rattle.field_box.specs.Fields.{NumberedSpan, IsField, number_at}
use Rattle.field_box.proofs.Stretches.{one_set}
use Rattle.field_box.proofs.field.Field.set.Goals as goal

pub put-requires : goal.put-requires
put-requires c =
    let f = c.self.inside in
    omega (arith, slice_get_within (indexes_of f.span) c.offset_in-place.result _ c.offset_in-place.ensures, c.self.invariant.1, ap length c.deref_mut.ensures.value)

pub returns : goal.returns
returns c =
    let f = c.self.inside in
    let i = c.args.i in
    let n = c.args.n in
    let place = c.offset_in-place.result in
    let fits : FitsSigned w64 n = c.ranges.n in
    let changed : c.put.new.numbers ≡ set f.numbers.items place n =
    (simp to_z-of_z at c.put.ensures) ∙ ap (λ (l : List ℤ). set l place n) c.deref_mut.ensures.value in
    let long : length c.put.new.numbers ≡ f.numbers.len = omega (arith, c.put.auto.numbers, c.deref_mut.ensures.len) in
    let items : take f.numbers.len (c.put.new.numbers ++ drop (length c.put.new.numbers) f.numbers.items) ≡ set f.numbers.items place n =
    take_at c.put.new.numbers (drop (length c.put.new.numbers) f.numbers.items) f.numbers.len long ∙ changed in
    let kept : List ℤ = take f.numbers.len (c.put.new.numbers ++ drop (length c.put.new.numbers) f.numbers.items) in
    let old : NumberedSpan = record { span = f.span; numbers = f.numbers.items } in
    subst (λ (g : NumberedSpan). IsField g.span (λ (j : Index). if is_same_index i j then n else number_at g j) (record { span = f.span; numbers = kept }))
    c.self.view_is
    (subst (λ (l : List ℤ). IsField f.span (λ (j : Index). if is_same_index i j then n else number_at old j) (record { span = f.span; numbers = l })) (sym items)
    (one_set f.span (c.indexes_stand_once.ensures f.span) (c.spans_hold_their_indexes.ensures f.span) f.numbers.items place i n c.self.invariant.1 c.offset_in-place.ensures))
