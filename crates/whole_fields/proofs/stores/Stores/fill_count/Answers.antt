use Rattle.std.proofs.Common.{◌≡◌, ◌∙◌, ◌≤◌, ◌+◌, ℕ, ℤ, pos, List, length, map, ap, sym, arith}
use Rattle.uts_geom.specs.declared.centring.Centring.{Centring}
use Rattle.uts_geom.specs.declared.index.Index.{Index}
use Rattle.uts_geom.specs.declared.span.Span.{Span}
use Rattle.kernel_rows.specs.Values.{indexes_on}
use Rattle.problem_types.specs.Lists.{centring_of}
use Rattle.problem_types.specs.Regions.{children_of, ratio_of}
use Rattle.problem_types.specs.declared.problem.Fold.TheVariants.{Sum}
use Rattle.reductions.specs.Folding.{all_combined}
use Rattle.whole_fields.specs.Children.{children_in}
use Rattle.whole_fields.specs.Views.{number_in}
use Rattle.whole_fields.specs.declared.shapes.Shape.{Shape}
use Rattle.whole_fields.proofs.Counting.{few_children, ones_counted}
use Rattle.whole_fields.proofs.Inside.{children_inside}
use Rattle.whole_fields.proofs.Lists.{map_alike}
use Rattle.whole_fields.proofs.stores.Stores.fill_count.Goals as goal

pub returns : goal.returns
returns c =
    let s = c.args.self.now in
    let p = s.checked.now in
    let name = c.args.read.now.name in
    let ones = c.ones.result in
    let centring = centring_of p name in
    let one = number_in ones.space ones.numbers.now ones.blank in
    let ratio = c.ratio_on.result in
    let few : ratio ≤ 4 = omega (arith, c.ratio_on.ensures.good) in
    let inner : Index → List Index = children_in ratio c.shape.result.centring ones.space in
    let same_centring : c.shape.result.centring ≡ centring = ap (λ (shape : Shape). shape.centring) (c.shape.ensures ∙ s.shaped.each name) in
    let same_children : (i : Index) → inner i ≡ children_of p s.level centring i = λ i.
    ap (λ (space : Span). children_in ratio c.shape.result.centring space i) c.ones.ensures.space
    ∙ ap (λ (r : ℕ). children_in r c.shape.result.centring c.field.result.space i) c.ratio_on.ensures.ratio
    ∙ ap (λ (t : Centring). children_in (ratio_of p (s.level + 1)) t c.field.result.space i) same_centring
    ∙ sym (children_inside p s.level centring c.field.result.space i c.field.ensures.space) in
    c.fill.ensures
    ∙ map_alike (λ i. all_combined Sum (map one (inner i))) (λ i. pos (length (children_of p s.level centring i))) (indexes_on c.args.row) (λ i.
    ones_counted one (inner i) c.ones.ensures.ones (few_children ratio c.shape.result.centring ones.space i few)
    ∙ ap (λ (children : List Index). pos (length children)) (same_children i))
