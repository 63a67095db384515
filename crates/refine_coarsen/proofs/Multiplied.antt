-- The children of an index fill a span, and are few.
use Rattle.std.proofs.Common.{◌≡◌, ◌∙◌, ◌≤◌, ◌*◌, ℕ, ℤ, pos, negsuc, ◌+ℤ◌, ◌*ℤ◌, List, [], ◌∷◌, length, length-append, map, Bool, true, false, ap, inl, inr, arith}
use Rattle.std.specs.Prelude.{nat_abs, if◌then◌else◌}
use Rattle.std.specs.Int.{int_gap}
use Rattle.std.specs.List.{flat_map}
use Rattle.std.proofs.lemmas.Int.{ints}
use Rattle.std.proofs.lemmas.List.{length-map}
use Rattle.uts_geom.specs.Centrings.{is_point_like}
use Rattle.uts_geom.specs.Spans.{index, counted, from_to, indexes_of}
use Rattle.uts_geom.specs.declared.centring.Axis.TheVariants.{X, Y, Z}
use Rattle.uts_geom.specs.declared.centring.Centring.{Centring}
use Rattle.uts_geom.specs.declared.index.Index.{Index}
use Rattle.problem_types.specs.Regions.{children_along}
use Rattle.refine_coarsen.specs.Levels.{children_at, span_of_children, IsRatio}

gap_of_sum : (low : ℤ) (n : ℕ) → int_gap low (low +ℤ pos n) ≡ n
gap_of_sum (pos a) n = grind (arith, ints)
gap_of_sum (negsuc a) n = grind (arith, ints)

counted_on : (low : ℤ) (n : ℕ) → from_to low (low +ℤ pos n) ≡ map (λ j. low +ℤ pos j) (counted 0 n)
counted_on low n = ap (λ (k : ℕ). map (λ j. low +ℤ pos j) (counted 0 k)) (gap_of_sum low n)

and_none : (n : ℤ) → n +ℤ pos 0 ≡ n
and_none n = omega (arith, ints)

-- the coordinates that one stands for, along an axis
along_axis : (point : Bool) (ratio k : ℤ) → IsRatio ratio →
    from_to (pos (nat_abs ratio) *ℤ k) (pos (nat_abs ratio) *ℤ k +ℤ (if point then pos 1 else ratio)) ≡ children_along point (nat_abs ratio) k
along_axis true ratio k is = counted_on (pos (nat_abs ratio) *ℤ k) 1 ∙ ap (λ (n : ℤ). n ∷ []) (and_none (pos (nat_abs ratio) *ℤ k))
along_axis false ratio k (inl two) = rw two (counted_on (pos 2 *ℤ k) 2)
along_axis false ratio k (inr four) = rw four (counted_on (pos 4 *ℤ k) 4)

abbrev joined : List ℤ → List ℤ → List ℤ → List Index
joined xs ys zs = flat_map (λ z. flat_map (λ y. map (λ x. index x y z) xs) ys) zs

pub fills_span : (ratio : ℤ) (c : Centring) (i : Index) → IsRatio ratio → indexes_of (span_of_children ratio c i) ≡ children_at (nat_abs ratio) c i
fills_span ratio c i is =
    let s = span_of_children ratio c i in
    let ys = from_to s.lo.y s.hi.y in
    let zs = from_to s.lo.z s.hi.z in
    ap (λ (xs : List ℤ). joined xs ys zs) (along_axis (is_point_like c X) ratio i.x is)
    ∙ ap (λ (l : List ℤ). joined (children_along (is_point_like c X) (nat_abs ratio) i.x) l zs) (along_axis (is_point_like c Y) ratio i.y is)
    ∙ ap (joined (children_along (is_point_like c X) (nat_abs ratio) i.x) (children_along (is_point_like c Y) (nat_abs ratio) i.y))
    (along_axis (is_point_like c Z) ratio i.z is)

few_along : (point : Bool) (ratio k : ℤ) → IsRatio ratio → length (children_along point (nat_abs ratio) k) ≤ 4
few_along true ratio k is = omega arith
few_along false ratio k (inl two) = rw two (omega arith)
few_along false ratio k (inr four) = rw four (omega arith)

length-pieces : {X A : Type 0} (f : X → List A) (n : ℕ) (xs : List X) → ((x : X) → length (f x) ≡ n) → length (flat_map f xs) ≡ n * length xs
length-pieces f n [] each = omega arith
length-pieces f n (x ∷ xs) each = length-append (f x) (flat_map f xs) ∙ omega (arith, each x, length-pieces f n xs each)

product_within : (a b c : ℕ) → a ≤ 4 → b ≤ 4 → c ≤ 4 → a * b * c ≤ 64
product_within a b c few_a few_b few_c = grind arith

pub are_few : (ratio : ℤ) (c : Centring) (i : Index) → IsRatio ratio → length (children_at (nat_abs ratio) c i) ≤ 64
are_few ratio c i is =
    let xs = children_along (is_point_like c X) (nat_abs ratio) i.x in
    let ys = children_along (is_point_like c Y) (nat_abs ratio) i.y in
    let zs = children_along (is_point_like c Z) (nat_abs ratio) i.z in
    let all : length (joined xs ys zs) ≡ length xs * length ys * length zs =
    length-pieces (λ (z : ℤ). flat_map (λ y. map (λ x. index x y z) xs) ys) (length xs * length ys) zs
    (λ z. length-pieces (λ (y : ℤ). map (λ x. index x y z) xs) (length xs) ys (λ y. length-map xs (λ (x : ℤ). index x y z))) in
    omega (
      arith,
      all,
      product_within (length xs) (length ys) (length zs) (few_along (is_point_like c X) ratio i.x is)
          (few_along (is_point_like c Y) ratio i.y is) (few_along (is_point_like c Z) ratio i.z is),
    )
