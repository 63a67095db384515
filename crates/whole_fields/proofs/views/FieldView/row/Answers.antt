use Rattle.std.proofs.Common.{◌≡◌, ◌∙◌, ◌≤◌, ℕ, ap, refl, rules, arith, w64, FitsSigned, Some, length, take, drop}
use Rattle.std.specs.Prelude.{slice_get}
use Rattle.std.proofs.lemmas.Int.{to_z-of_z}
use Rattle.std.proofs.lemmas.List.{length-take}
use Rattle.uts_geom.specs.Spans.{index, indexes_of, width_of}
use Rattle.whole_fields.proofs.RowsTogether.{row_within}
use Rattle.whole_fields.proofs.RowViews.{row_is}
use Rattle.whole_fields.proofs.views.FieldView.row.Goals as goal
use Rattle.whole_fields.proofs.views.FieldView.row.Goals.{In-Some}

first_at : (c : In-Some) → slice_get (indexes_of c.args.self.now.space) c.in-Some.begin ≡ Some (index c.args.self.now.space.lo.x c.args.y c.args.z)
first_at c =
    let fits_y : FitsSigned w64 c.args.y = c.ranges.y in
    let fits_z : FitsSigned w64 c.args.z = c.ranges.z in
    simp to_z-of_z at c.in-Some.ensures.some

pub part-requires : goal.part-requires
part-requires c =
    let field = c.args.self.now in
    omega (arith, row_within field.space c.in-Some.begin c.args.y c.args.z (first_at (goal.at.part-requires c).In-Some), c.in-Some.ensures.full refl, c.width.ensures.width)

pub invariant_of-result : goal.invariant_of-result
invariant_of-result c =
    let field = c.args.self.now in
    let fits : FitsSigned w64 field.space.lo.x = search rules in
    let short : length c.part.result.now ≤ 131072 =
    omega (arith, ap length c.part.ensures, length-take c.width.result (drop c.in-Some.begin field.numbers.now), c.width.ensures.small) in
    record { near = rw to_z-of_z field.near.lo.x; short = short }

pub returns : goal.returns
returns c =
    let field = c.args.self.now in
    let fits_x : FitsSigned w64 field.space.lo.x = search rules in
    let fits_blank : FitsSigned w64 field.blank = search rules in
    let numbers : c.part.result.now ≡ take (width_of field.space) (drop c.in-Some.begin field.numbers.now) =
    c.part.ensures ∙ ap (λ (n : ℕ). take n (drop c.in-Some.begin field.numbers.now)) c.width.ensures.width in
    rw (to_z-of_z, to_z-of_z, numbers)
    (row_is field.space (c.spans_hold_their_indexes.ensures field.space) (c.indexes_stand_once.ensures field.space) field.numbers.now field.blank
    (c.in-Some.ensures.full refl) c.in-Some.begin c.args.y c.args.z (first_at (goal.at.returns c).In-Some))
