use Rattle.std.proofs.Common.{◌≡◌, ◌∙◌, ◌+◌, ℕ, ℤ, List, map, ap, sym}
use Rattle.uts_geom.specs.declared.centring.Centring.{Centring}
use Rattle.uts_geom.specs.declared.index.Index.{Index}
use Rattle.kernel_rows.specs.Values.{indexes_on}
use Rattle.problem_types.specs.Lists.{centring_of}
use Rattle.problem_types.specs.Regions.{children_of, ratio_of}
use Rattle.reductions.specs.Folding.{all_combined}
use Rattle.uts_model.specs.WholeField.{store_of}
use Rattle.whole_fields.specs.Children.{children_in}
use Rattle.whole_fields.specs.Stored.{state_of}
use Rattle.whole_fields.specs.Views.{number_in}
use Rattle.whole_fields.specs.declared.shapes.Shape.{Shape}
use Rattle.whole_fields.proofs.Inside.{children_inside}
use Rattle.whole_fields.proofs.Lists.{map_alike}
use Rattle.whole_fields.proofs.stores.Stores.fill_fine.Goals as goal

pub returns : goal.returns
returns c =
    let s = c.args.self.now in
    let p = s.checked.now in
    let name = c.args.read.now.name in
    let fold = c.args.fold in
    let field = c.field.result in
    let centring = centring_of p name in
    let seen = number_in field.space field.numbers.now field.blank in
    let number : Index → ℤ =
    (store_of (state_of p s.old.now) (state_of p s.new.now) c.args.read.now.store).field name s.material (s.level + 1) in
    let inner : Index → List Index = children_in c.ratio_on.result c.shape.result.centring field.space in
    let same_centring : c.shape.result.centring ≡ centring = ap (λ (shape : Shape). shape.centring) (c.shape.ensures ∙ s.shaped.each name) in
    let same_children : (i : Index) → inner i ≡ children_of p s.level centring i = λ i.
    ap (λ (ratio : ℕ). children_in ratio c.shape.result.centring field.space i) c.ratio_on.ensures.ratio
    ∙ ap (λ (t : Centring). children_in (ratio_of p (s.level + 1)) t field.space i) same_centring
    ∙ sym (children_inside p s.level centring field.space i c.field.ensures.space) in
    c.fill.ensures
    ∙ map_alike (λ i. all_combined fold (map seen (inner i))) (λ i. all_combined fold (map number (children_of p s.level centring i))) (indexes_on c.args.row) (λ i.
    ap (all_combined fold) (map_alike seen number (inner i) c.field.ensures.numbers ∙ ap (map number) (same_children i)))
