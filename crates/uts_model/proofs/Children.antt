-- The children of an index as the indexes of a span.
use Rattle.std.proofs.Common.{◌≡◌, ◌∙◌, ap, sym, arith, ℕ, ℤ, pos, negsuc, ◌+◌, ◌*◌, ◌≤◌, ◌+ℤ◌, ◌*ℤ◌, ◌≤ℤ◌, List, [], ◌∷◌, Bool, true, false, map}
use Rattle.std.specs.Prelude.{filter}
use Rattle.std.specs.Int.{int_gap}
use Rattle.std.specs.List.{flat_map}
use Rattle.std.proofs.Math.Nat.{mul-le-mul_left}
use Rattle.std.proofs.lemmas.Int.{ints}
use Rattle.uts_geom.specs.Centrings.{is_point_like}
use Rattle.uts_geom.specs.Spans.{index, counted, from_to, is_inside, indexes_of, meet_of, IsNearNumber, IsNearSpan}
use Rattle.uts_geom.specs.declared.centring.Axis.TheVariants.{X, Y, Z}
use Rattle.uts_geom.specs.declared.centring.Centring.{Centring}
use Rattle.uts_geom.specs.declared.index.Index.{Index}
use Rattle.uts_geom.specs.declared.span.Span.{Span}
use Rattle.problem_types.specs.Regions.{ratio_of, is_in_space, children_along, children_of}
use Rattle.problem_types.specs.declared.problem.Problem.{Problem}
use Rattle.problem_types.specs.NearSpaces.{IsOnAxis, IsOnGrid}
use Rattle.uts_model.specs.Grids.{children_end, all_children}
use Rattle.uts_model.proofs.Filtered.{indexes-meet}

one_gap : (low : ℤ) → int_gap low (low +ℤ pos 1) ≡ 1
one_gap low = grind (arith, ints)

ratio_gap : (low : ℤ) (n : ℕ) → int_gap low (low +ℤ pos n) ≡ n
ratio_gap low n = grind (arith, ints)

-- the children along an axis are the numbers from the first to the end
along : (point : Bool) (ratio : ℕ) (n : ℤ) → from_to (pos ratio *ℤ n) (children_end point (pos ratio) n) ≡ children_along point ratio n
along true ratio n =
    let low = pos ratio *ℤ n in
    ap (λ (gap : ℕ). map (λ k. low +ℤ pos k) (counted 0 gap)) (one_gap low)
    ∙ ap (λ (m : ℤ). m ∷ []) (let e : low +ℤ pos (0 + 0) ≡ low = omega (arith, ints) in e)
along false ratio n =
    let low = pos ratio *ℤ n in
    ap (λ (gap : ℕ). map (λ k. low +ℤ pos k) (counted 0 gap)) (ratio_gap low ratio)

-- the indexes of three lists of coordinates
joined : List ℤ → List ℤ → List ℤ → List Index
joined xs ys zs = flat_map (λ z. flat_map (λ y. map (λ x. index x y z) xs) ys) zs

indexes-all_children : (ratio : ℕ) (c : Centring) (i : Index) →
    indexes_of (all_children (pos ratio) c i)
    ≡ joined (children_along (is_point_like c X) ratio i.x) (children_along (is_point_like c Y) ratio i.y) (children_along (is_point_like c Z) ratio i.z)
unfolding joined
indexes-all_children ratio c i =
    let all = all_children (pos ratio) c i in
    ap (λ (xs : List ℤ). joined xs (from_to all.lo.y all.hi.y) (from_to all.lo.z all.hi.z)) (along (is_point_like c X) ratio i.x)
    ∙ ap (λ (ys : List ℤ). joined (children_along (is_point_like c X) ratio i.x) ys (from_to all.lo.z all.hi.z)) (along (is_point_like c Y) ratio i.y)
    ∙ ap (λ (zs : List ℤ). joined (children_along (is_point_like c X) ratio i.x) (children_along (is_point_like c Y) ratio i.y) zs) (along (is_point_like c Z) ratio i.z)

-- where a span holds what lies on the next finer level
pub indexes-children : (p : Problem) (level : ℕ) (c : Centring) (i : Index) (space : Span) →
    ((j : Index) → is_in_space p (level + 1) c j ≡ is_inside space j) →
    indexes_of (meet_of (all_children (pos (ratio_of p (level + 1))) c i) space) ≡ children_of p level c i
unfolding joined
indexes-children p level c i space inside =
    let ratio = ratio_of p (level + 1) in
    indexes-meet (all_children (pos ratio) c i) space
    ∙ ap (λ (q : Index → Bool). filter q (indexes_of (all_children (pos ratio) c i))) (λ t j. sym (inside j) t)
    ∙ ap (filter (is_in_space p (level + 1) c)) (indexes-all_children ratio c i)

-- coordinates of children
IsChildNumber : ℤ → Type 0
IsChildNumber n = (pos 0 ≤ℤ n) × (n ≤ℤ pos 16392)

first_near : (ratio : ℕ) (n : ℤ) → ratio ≤ 4 → IsOnAxis n → (pos 0 ≤ℤ (pos ratio *ℤ n)) × ((pos ratio *ℤ n) ≤ℤ pos 16388)
first_near ratio (pos n) small on =
    let few : n ≤ 4097 = omega (arith, ints, on.1) in
    let most : ratio * n ≤ ratio * 4097 = mul-le-mul_left ratio few in
    (omega (arith, ints), omega (arith, ints, most))
first_near ratio (negsuc n) small on = absurd (omega (arith, ints, on.0))

end_near : (point : Bool) (ratio : ℕ) (n : ℤ) → ratio ≤ 4 → IsOnAxis n → IsNearNumber (children_end point (pos ratio) n)
end_near true ratio n small on = let first = first_near ratio n small on in (omega (arith, ints, first.0), omega (arith, ints, first.1))
end_near false ratio n small on = let first = first_near ratio n small on in (omega (arith, ints, first.0), omega (arith, ints, first.1))

low_near : (ratio : ℕ) (n : ℤ) → ratio ≤ 4 → IsOnAxis n → IsNearNumber (pos ratio *ℤ n)
low_near ratio n small on = let first = first_near ratio n small on in (omega (arith, ints, first.0), omega (arith, ints, first.1))

pub all_near : (ratio : ℕ) (c : Centring) (i : Index) → ratio ≤ 4 → IsOnGrid i → IsNearSpan (all_children (pos ratio) c i)
all_near ratio c i small on = record {
  lo = record { x = low_near ratio i.x small on.x; y = low_near ratio i.y small on.y; z = low_near ratio i.z small on.z };
  hi = record { x = end_near _ ratio i.x small on.x; y = end_near _ ratio i.y small on.y; z = end_near _ ratio i.z small on.z };
}
