use Rattle.std.proofs.Common.{◌≡◌, ◌∙◌, ◌<◌, ℕ, ℤ, List, pos, ◌+ℤ◌, length, map, fold, replicate, ap, refl, rules, arith, w64, FitsSigned}
use Rattle.std.specs.Prelude.{slice_index_or}
use Rattle.std.proofs.lemmas.Int.{to_z-of_z}
use Rattle.std.proofs.lemmas.List.{length-replicate, get_or-replicate}
use Rattle.uts_geom.specs.declared.index.Index.{Index}
use Rattle.uts_geom.specs.Spans.{index}
use Rattle.uts_geom.specs.ByPlace.{listed_by}
use Rattle.reductions.specs.Folding.{all_combined, combined, identity_of}
use Rattle.whole_fields.specs.Children.{children_in}
use Rattle.whole_fields.specs.Views.{number_in}
use Rattle.whole_fields.proofs.OnRows.{on_row}
use Rattle.whole_fields.proofs.fine.FineFold.fill.Goals as goal

pub returns : goal.returns
returns c =
    let fine = c.args.self.now in
    let row = c.args.row in
    let n = length c.args.out.now in
    let fits : FitsSigned w64 c.identity.result = search rules in
    let begun : c.fill_with.new.out ≡ replicate n (identity_of fine.fold) =
    (simp to_z-of_z at c.fill_with.ensures) ∙ ap (replicate n) c.identity.ensures in
    let long : length c.fill_with.new.out ≡ n = ap length begun ∙ length-replicate n (identity_of fine.fold) in
    let folded : Index → ℤ = λ i.
    all_combined fine.fold (map (number_in fine.field.space fine.field.numbers.now fine.field.blank) (children_in fine.ratio fine.centring fine.field.space i)) in
    listed_by (λ k. folded (index (row.low +ℤ pos k) row.y row.z)) n c.add_all.new.out (pos 0) (c.add_all.ensures.long ∙ long) (λ k below.
    c.add_all.ensures.each k (omega (arith, long))
    ∙ ap (λ (m : ℤ). fold (combined fine.fold) m (map (number_in fine.field.space fine.field.numbers.now fine.field.blank)
    (children_in fine.ratio fine.centring fine.field.space (index (row.low +ℤ pos k) row.y row.z))))
    (ap (λ (l : List ℤ). slice_index_or l k (pos 0)) begun ∙ get_or-replicate n k (identity_of fine.fold) (pos 0) below))
    ∙ on_row row n (λ k. folded (index (row.low +ℤ pos k) row.y row.z)) folded c.requires (λ k below. refl)
