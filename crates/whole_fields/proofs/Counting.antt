-- How many children an index has.
use Rattle.std.proofs.Common.{◌≡◌, ◌∙◌, ◌≤◌, ◌<◌, ◌+◌, ◌*◌, ◌^◌, ℕ, zero, suc, ℤ, pos, ◌+ℤ◌, ◌*ℤ◌, List, [], ◌∷◌, ◌++◌, length, map, fold, Bool, true, false, refl, ap, sym, arith, length-append, w64, FitsSigned}
use Rattle.std.specs.Prelude.{filter}
use Rattle.std.specs.Int.{int_wrap}
use Rattle.std.specs.List.{flat_map}
use Rattle.std.proofs.lemmas.Int.{ints, int_wrap_fits}
use Rattle.std.proofs.lemmas.List.{length-map}
use Rattle.std.proofs.lemmas.List.Sums.{length-filter, count_by-le-length}
use Rattle.uts_geom.specs.Centrings.{is_point_like}
use Rattle.uts_geom.specs.declared.centring.Axis.TheVariants.{X, Y, Z}
use Rattle.uts_geom.specs.declared.centring.Centring.{Centring}
use Rattle.uts_geom.specs.declared.index.Index.{Index}
use Rattle.uts_geom.specs.declared.span.Span.{Span}
use Rattle.uts_geom.specs.Spans.{index, is_between, counted}
use Rattle.uts_geom.specs.Counting.{length-counted}
use Rattle.problem_types.specs.Regions.{children_along}
use Rattle.problem_types.specs.declared.problem.Fold.TheVariants.{Sum}
use Rattle.reductions.specs.Folding.{all_combined, combined}
use Rattle.whole_fields.specs.Children.{children_in, children_on_x, children_on_y, children_on_z, inner_children}

one_added : (n : ℕ) → n + 1 < 2 ^ 63 → combined Sum (pos n) (pos 1) ≡ pos (n + 1)
one_added n small = int_wrap_fits w64 (pos n +ℤ pos 1) (let fits : FitsSigned w64 (pos n +ℤ pos 1) = grind (arith, ints) in fits) ∙ grind (arith, ints)

-- ones add up to how many they are
ones_from : {A : Type 0} (one : A → ℤ) (items : List A) (n : ℕ) → ((a : A) → one a ≡ pos 1) → n + length items < 2 ^ 63 →
    fold (combined Sum) (pos n) (map one items) ≡ pos (n + length items)
ones_from one [] n ones small = ap pos (let e : n ≡ n + 0 = omega arith in e)
ones_from one (a ∷ items) n ones small =
    ap (λ (m : ℤ). fold (combined Sum) m (map one items)) (ap (combined Sum (pos n)) (ones a) ∙ one_added n (omega arith))
    ∙ ones_from one items (n + 1) ones (omega arith)
    ∙ ap pos (let e : (n + 1) + length items ≡ n + suc (length items) = omega arith in e)

pub ones_counted : {A : Type 0} (one : A → ℤ) (items : List A) → ((a : A) → one a ≡ pos 1) → length items < 2 ^ 63 →
    all_combined Sum (map one items) ≡ pos (length items)
ones_counted one items ones small =
    ones_from one items 0 ones (omega arith) ∙ ap pos (let e : 0 + length items ≡ length items = omega arith in e)

few_along : (point : Bool) (ratio : ℕ) (n : ℤ) → ratio ≤ 4 → length (children_along point ratio n) ≤ 4
few_along true ratio n few = omega arith
few_along false ratio n few = omega (arith, length-map (counted 0 ratio) (λ j. (pos ratio *ℤ n) +ℤ pos j), length-counted 0 ratio)

few_inner : (low high : ℤ) (point : Bool) (ratio : ℕ) (n : ℤ) → ratio ≤ 4 → length (inner_children low high point ratio n) ≤ 4
few_inner low high point ratio n few =
    omega (
      arith,
      length-filter (is_between low high) (children_along point ratio n),
      count_by-le-length (is_between low high) (children_along point ratio n),
      few_along point ratio n few,
    )

few_pieces : {A B : Type 0} (f : A → List B) (most : ℕ) (items : List A) → ((a : A) → length (f a) ≤ most) → length (flat_map f items) ≤ length items * most
few_pieces f most [] each = omega arith
few_pieces f most (a ∷ items) each = omega (arith, length-append (f a) (flat_map f items), each a, few_pieces f most items each)

pub few_children : (ratio : ℕ) (c : Centring) (s : Span) (i : Index) → ratio ≤ 4 → length (children_in ratio c s i) < 2 ^ 63
few_children ratio c s i few =
    let xs = children_on_x ratio c s i.x in
    let ys = children_on_y ratio c s i.y in
    let zs = children_on_z ratio c s i.z in
    let row : ℤ → ℤ → List Index = λ z y. map (λ x. index x y z) xs in
    let plane : ℤ → List Index = λ z. flat_map (row z) ys in
    let few_x : length xs ≤ 4 = few_inner s.lo.x s.hi.x (is_point_like c X) ratio i.x few in
    let few_y : length ys ≤ 4 = few_inner s.lo.y s.hi.y (is_point_like c Y) ratio i.y few in
    let few_z : length zs ≤ 4 = few_inner s.lo.z s.hi.z (is_point_like c Z) ratio i.z few in
    let each_plane : (z : ℤ) → length (plane z) ≤ 16 = λ z. omega (arith, few_pieces (row z) 4 ys (λ y. omega (arith, length-map xs (λ x. index x y z), few_x)), few_y) in
    omega (arith, few_pieces plane 16 zs each_plane, few_z)
