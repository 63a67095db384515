use Rattle.std.proofs.Common.{◌≡◌, ◌∙◌, ◌+◌, ◌++◌, ℤ, List, length, take, drop, replicate, ap, rules, w64, FitsSigned}
use Rattle.std.proofs.lemmas.Int.{to_z-of_z}
use Rattle.whole_fields.proofs.Filling.{filled_row}
use Rattle.whole_fields.proofs.views.FieldRow.fill.Goals as goal

pub returns : goal.returns
returns c =
    let row = c.args.self.now in
    let n = length c.args.out.now in
    let before = c.gap-before.result in
    let fits_low : FitsSigned w64 row.low = search rules in
    let fits_outside : FitsSigned w64 row.outside = search rules in
    let fits_from : FitsSigned w64 c.args.from = c.ranges.from in
    let blank : c.fill_with.new.out ≡ replicate n row.outside = simp to_z-of_z at c.fill_with.ensures in
    let numbers = take c.min-count.result (drop c.gap-skipped.result row.numbers.now) in
    c.copy_over.ensures
    ∙ ap (λ (part : List ℤ). take before c.fill_with.new.out ++ (part ++ drop (before + length part) c.fill_with.new.out)) c.part.ensures
    ∙ ap (λ (out : List ℤ). take before out ++ (numbers ++ drop (before + length numbers) out)) blank
    ∙ filled_row row.low c.args.from row.numbers.now row.outside n before c.gap-skipped.result c.min-count.result
    (simp to_z-of_z at c.gap-before.ensures) (simp to_z-of_z at c.gap-skipped.ensures) c.min-count.ensures
