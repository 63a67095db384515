use Rattle.std.proofs.Common.{◌≡◌, ◌∙◌, ◌<◌, ℤ, pos, ◌+ℤ◌, ap, rules, arith, to_z, of_z, w64, FitsSigned}
use Rattle.std.proofs.lemmas.Int.{ints, to_z-of_z}
use Rattle.reductions.specs.Folding.{combined}
use Rattle.whole_fields.specs.Views.{number_along}
use Rattle.whole_fields.proofs.Folded.{combined_more}
use Rattle.whole_fields.proofs.fine.combine_children.Goals as goal

pub loop-j-preserved : goal.loop-j-preserved
loop-j-preserved c =
    let along = c.args.along.now in
    let j = c.loop-j.j in
    let first = c.args.xs.first in
    let row = number_along along.low along.numbers.now along.outside in
    let fits_at : FitsSigned w64 c.at.result = search rules in
    let fits_all : FitsSigned w64 c.combine-all.result = search rules in
    let few : j < 4 = omega (arith, c.args.xs.few) in
    let near = c.args.xs.near in
    let x : to_z w64 (of_z w64 (to_z w64 (of_z w64 first) +ℤ to_z w64 j)) ≡ first +ℤ pos j = omega (arith, ints, near.0, near.1) in
    let number : c.at.result ≡ row (first +ℤ pos j) = c.at.ensures ∙ ap row x in
    to_z-of_z w64 c.combine-all.result fits_all
    ∙ c.combine-all.ensures
    ∙ ap (combined c.args.folding (to_z w64 c.loop-j.all-bits)) (to_z-of_z w64 c.at.result fits_at ∙ number)
    ∙ ap (λ (n : ℤ). combined c.args.folding n (row (first +ℤ pos j))) c.loop-j.invariant
    ∙ combined_more c.args.folding _ row first j
