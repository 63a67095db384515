use Rattle.std.proofs.Common.{◌≡◌, ◌∙◌, ◌<◌, ◌++◌, ℕ, ℤ, List, pos, ◌+ℤ◌, map, ap, rules, arith, to_z, of_z, w64, FitsSigned}
use Rattle.std.specs.List.{flat_map}
use Rattle.std.proofs.lemmas.Int.{ints, to_z-of_z}
use Rattle.uts_geom.specs.declared.index.Index.{Index}
use Rattle.uts_geom.specs.Spans.{index}
use Rattle.whole_fields.specs.Children.{stretch, children_on_x, children_on_y, children_on_z}
use Rattle.whole_fields.specs.Views.{number_in}
use Rattle.whole_fields.proofs.Folded.{then_folded, folded_alike, pieces_more}
use Rattle.whole_fields.proofs.fine.FineFold.add_all.Goals as goal

pub loop-j-preserved : goal.loop-j-preserved
loop-j-preserved c =
    let fine = c.args.self.now in
    let j = c.loop-j.j in
    let ys = c.on_y-ys.result in
    let zs = c.on_z-zs.result in
    let first = zs.first in
    let near = zs.near in
    let few : j < 4 = omega (arith, zs.few) in
    let at_z : to_z w64 (of_z w64 (to_z w64 (of_z w64 first) +ℤ to_z w64 j)) ≡ first +ℤ pos j = omega (arith, ints, near.0, near.1) in
    let number = number_in fine.field.space fine.field.numbers.now fine.field.blank in
    let plane : ℕ → List ℤ → ℤ → List Index =
    λ k all z. flat_map (λ y. map (λ x. index x y z) (children_on_x fine.ratio fine.centring fine.field.space (c.args.row.low +ℤ pos k))) all in
    let children = children_on_y fine.ratio fine.centring fine.field.space c.args.row.y in
    let fits_y : FitsSigned w64 c.args.row.y = search rules in
    let on_y : stretch ys.first ys.count ≡ children = simp to_z-of_z at c.on_y-ys.ensures in
    folded_alike fine.fold c.args.out.now c.add_plane.new.out
    (λ k. map number (flat_map (plane k children) (stretch first j))
    ++ map number (plane k (stretch ys.first ys.count) (to_z w64 (of_z w64 (to_z w64 (of_z w64 first) +ℤ to_z w64 j))))) _
    (λ k below.
    ap (λ (rest : List ℤ). map number (flat_map (plane k children) (stretch first j)) ++ rest)
    (ap (λ (z : ℤ). map number (plane k (stretch ys.first ys.count) z)) at_z ∙ ap (λ (all : List ℤ). map number (plane k all (first +ℤ pos j))) on_y)
    ∙ pieces_more number (plane k children) first j)
    (then_folded fine.fold c.args.out.now c.loop-j.out c.add_plane.new.out _ _ c.loop-j.invariant c.add_plane.ensures)

pub returns : goal.returns
returns c =
    let fine = c.args.self.now in
    let zs = c.on_z-zs.result in
    let number = number_in fine.field.space fine.field.numbers.now fine.field.blank in
    let plane : ℕ → ℤ → List Index = λ k z.
    flat_map (λ y. map (λ x. index x y z) (children_on_x fine.ratio fine.centring fine.field.space (c.args.row.low +ℤ pos k)))
    (children_on_y fine.ratio fine.centring fine.field.space c.args.row.y) in
    let fits_z : FitsSigned w64 c.args.row.z = search rules in
    let on_z : stretch zs.first zs.count ≡ children_on_z fine.ratio fine.centring fine.field.space c.args.row.z = simp to_z-of_z at c.on_z-zs.ensures in
    let all : c.loop-j.j ≡ zs.count = omega arith in
    folded_alike fine.fold c.args.out.now c.loop-j.out (λ k. map number (flat_map (plane k) (stretch zs.first c.loop-j.j))) _
    (λ k below. ap (λ (j : ℕ). map number (flat_map (plane k) (stretch zs.first j))) all ∙ ap (λ (l : List ℤ). map number (flat_map (plane k) l)) on_z)
    c.loop-j.invariant
