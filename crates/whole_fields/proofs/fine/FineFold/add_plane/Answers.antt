use Rattle.std.proofs.Common.{◌≡◌, ◌∙◌, ◌<◌, ◌++◌, ℕ, ℤ, List, pos, ◌+ℤ◌, map, ap, rules, arith, to_z, of_z, w64, FitsSigned}
use Rattle.std.specs.List.{flat_map}
use Rattle.std.proofs.lemmas.Int.{ints, to_z-of_z}
use Rattle.uts_geom.specs.declared.index.Index.{Index}
use Rattle.uts_geom.specs.Spans.{index}
use Rattle.whole_fields.specs.Children.{stretch, children_on_x}
use Rattle.whole_fields.specs.Views.{number_along, number_in}
use Rattle.whole_fields.proofs.Folded.{then_folded, folded_alike, pieces_more, row_numbers}
use Rattle.whole_fields.proofs.fine.FineFold.add_plane.Goals as goal

pub loop-j-preserved : goal.loop-j-preserved
loop-j-preserved c =
    let fine = c.args.self.now in
    let j = c.loop-j.j in
    let z : ℤ = to_z w64 (of_z w64 c.args.z) in
    let first = c.args.ys.first in
    let near = c.args.ys.near in
    let few : j < 4 = omega (arith, c.args.ys.few) in
    let at_y : to_z w64 (of_z w64 (to_z w64 (of_z w64 first) +ℤ to_z w64 j)) ≡ first +ℤ pos j = omega (arith, ints, near.0, near.1) in
    let along = number_along c.row.result.low c.row.result.numbers.now c.row.result.outside in
    let number = number_in fine.field.space fine.field.numbers.now fine.field.blank in
    let xs : ℕ → List ℤ = λ k. children_on_x fine.ratio fine.centring fine.field.space (c.args.row.low +ℤ pos k) in
    let piece : ℕ → ℤ → List Index = λ k y. map (λ x. index x y z) (xs k) in
    let seen : (x : ℤ) → along x ≡ number (index x (first +ℤ pos j) z) = λ x. c.row.ensures x ∙ ap (λ (y : ℤ). number (index x y z)) at_y in
    folded_alike fine.fold c.args.out.now c.add_row.new.out
    (λ k. map number (flat_map (piece k) (stretch first j)) ++ map along (xs k)) _
    (λ k below.
    ap (λ (rest : List ℤ). map number (flat_map (piece k) (stretch first j)) ++ rest) (row_numbers along number (first +ℤ pos j) z (xs k) seen)
    ∙ pieces_more number (piece k) first j)
    (then_folded fine.fold c.args.out.now c.loop-j.out c.add_row.new.out _ _ c.loop-j.invariant c.add_row.ensures)

pub returns : goal.returns
returns c =
    let fits_z : FitsSigned w64 c.args.z = c.ranges.z in
    let all : c.loop-j.j ≡ c.args.ys.count = omega arith in
    rw all at (simp to_z-of_z at c.loop-j.invariant)
