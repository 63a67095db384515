use Rattle.std.proofs.Common.{◌≡◌, ◌∙◌, ℕ, ℤ, List, length, replicate, ap, sym, subst, w64, FitsSigned}
use Rattle.std.proofs.lemmas.Int.{to_z-of_z}
use Rattle.uts_geom.specs.declared.index.Index.{Index}
use Rattle.uts_geom.specs.Spans.{indexes_of}
use Rattle.field_box.specs.Fields.{IsField}
use Rattle.field_box.proofs.Stretches.{filled_with}
use Rattle.field_box.proofs.field.Field.filled.Goals as goal

pub returns : goal.returns
returns c =
    let span = c.args.span in
    let n = c.args.n in
    let fits : FitsSigned w64 n = c.ranges.n in
    let items : c.in_ok-numbers.numbers.items ≡ replicate (length (indexes_of span)) n =
    (simp to_z-of_z at c.in_ok-numbers.ensures) ∙ ap (λ (k : ℕ). replicate k n) c.volume.ensures in
    subst (λ (l : List ℤ). IsField span (λ (i : Index). n) (record { span = span; numbers = l })) (sym items)
    (filled_with span (c.indexes_stand_once.ensures span) (c.spans_hold_their_indexes.ensures span) n)
