use Rattle.std.proofs.Common.{◌≡◌, ◌∙◌, ℤ, pos, map, length, ap, subst, w64, to_z, of_z, FitsSigned, rules}
use Rattle.std.specs.Prelude.{slice_index_or, if◌then◌else◌}
use Rattle.std.specs.Int.{int_gap}
use Rattle.std.proofs.lemmas.Int.{to_z-of_z}
use Rattle.uts_geom.specs.Spans.{row_indexes, width_of}
use Rattle.uts_geom.specs.declared.span.Span.{Span}
use Rattle.field_box.specs.Fields.{IsField, number_at as number_of}
use Rattle.field_box.specs.WalkedRows.{is_in_row}
use Rattle.kernel_sweeps.specs.Sweeps.{number_at}
use Rattle.kernel_sweeps.proofs.FilledRows.{row_given}
use Rattle.kernel_sweeps.proofs.filling.set_along.Goals as goal

pub set_row-requires : goal.set_row-requires
set_row-requires g c =
    let fits_y : FitsSigned w64 c.args.at.0 = search rules in
    let fits_z : FitsSigned w64 c.args.at.1 = search rules in
    let long : length c.fill_row.new.out ≡ width_of c.args.sweep.now.span = search rules in
    record {
      row = rw (to_z-of_z w64 c.args.at.0 fits_y, to_z-of_z w64 c.args.at.1 fits_z, c.requires.span) c.requires.row;
      whole = rw c.requires.span long;
    }

pub returns : goal.returns
returns g c =
    let fits_y : FitsSigned w64 c.args.at.0 = search rules in
    let fits_z : FitsSigned w64 c.args.at.1 = search rules in
    let at_y = to_z-of_z w64 c.args.at.0 fits_y in
    let at_z = to_z-of_z w64 c.args.at.1 fits_z in
    let y = c.args.at.0 in
    let z = c.args.at.1 in
    let as_y = to_z w64 (of_z w64 y) in
    let as_z = to_z w64 (of_z w64 z) in
    let s = c.args.sweep.now.span in
    let old = c.args.field.now in
    let new = c.set_row.new.self in
    let number = number_at c.args.sweep.now (g.R.Reads.numbers c.args.reads.now) (g.R.Reads.reductions c.args.reads.now) in
    let numbers = c.fill_row.new.out in
    let IsSet : Span → ℤ → ℤ → Type 0 =
    λ s y z. IsField s (λ i. if is_in_row y z i then slice_index_or numbers (int_gap s.lo.x i.x) (pos 0) else number_of old i) new in
    row_given number s y z old new numbers
    (c.fill_row.ensures ∙ ap (λ (n : ℤ). map number (row_indexes s n as_z)) at_y ∙ ap (λ (n : ℤ). map number (row_indexes s y n)) at_z)
    (subst (λ (s : Span). IsSet s y z) c.requires.span
    (subst (λ (n : ℤ). IsSet old.span n z) at_y (subst (λ (n : ℤ). IsSet old.span as_y n) at_z c.set_row.ensures)))
