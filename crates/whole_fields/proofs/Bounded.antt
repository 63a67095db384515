-- The children of a coordinate that lie within bounds.
use Rattle.std.proofs.Common.{◌≡◌, ◌∙◌, ◌≤◌, ◌<◌, ◌+◌, ◌^◌, inl, inr, ℕ, zero, suc, ℤ, pos, negsuc, ◌+ℤ◌, ◌*ℤ◌, List, [], ◌∷◌, ◌++◌, map, cond, min, Bool, true, false, w64, refl, ap, sym, arith, add-one, append-nil}
use Rattle.std.specs.Prelude.{filter}
use Rattle.std.specs.Int.{int_gap, int_min, int_max, saturate_signed}
use Rattle.std.proofs.lemmas.Bool.{cases_Bool, cases_lt}
use Rattle.std.proofs.lemmas.Int.{ints, clamps}
use Rattle.std.proofs.lemmas.List.{map-append}
use Rattle.std.proofs.lemmas.List.Elements.{filter-append}
use Rattle.uts_geom.specs.Spans.{is_between, counted, IsNearNumber}
use Rattle.problem_types.specs.Regions.{children_along}
use Rattle.whole_fields.specs.Children.{stretch, inner_children, width_along}
use Rattle.whole_fields.proofs.Folded.{stretch_more}

abbrev pub begin_of : (low high v : ℤ) → ℤ
begin_of low high v = int_min (int_max v low) high

abbrev end_of : (high v : ℤ) → ℕ → ℤ
end_of high v count = int_min (v +ℤ pos count) high

none_at_first : (low high v : ℤ) → int_gap (begin_of low high v) (end_of high v 0) ≡ 0
none_at_first low high v = grind (arith, ints)

one_more : (low high v : ℤ) (count : ℕ) → is_between low high (v +ℤ pos count) ≡ true →
    int_gap (begin_of low high v) (end_of high v (suc count)) ≡ suc (int_gap (begin_of low high v) (end_of high v count))
one_more low high v count inside = grind (arith, ints)

the_next : (low high v : ℤ) (count : ℕ) → is_between low high (v +ℤ pos count) ≡ true →
    begin_of low high v +ℤ pos (int_gap (begin_of low high v) (end_of high v count)) ≡ v +ℤ pos count
the_next low high v count inside = grind (arith, ints)

none_more : (low high v : ℤ) (count : ℕ) → is_between low high (v +ℤ pos count) ≡ false →
    int_gap (begin_of low high v) (end_of high v (suc count)) ≡ int_gap (begin_of low high v) (end_of high v count)
none_more low high v count outside = grind (arith, ints)

next_of : (first : ℤ) (count : ℕ) → stretch first (suc count) ≡ stretch first count ++ (first +ℤ pos count) ∷ []
next_of first count = sym (ap (stretch first) (add-one count)) ∙ stretch_more first count

split : (low high v : ℤ) (count : ℕ) → filter (is_between low high) (stretch v (suc count))
    ≡ filter (is_between low high) (stretch v count) ++ cond (is_between low high (v +ℤ pos count)) ((v +ℤ pos count) ∷ []) []
split low high v count =
    ap (filter (is_between low high)) (next_of v count) ∙ filter-append (is_between low high) (stretch v count) ((v +ℤ pos count) ∷ [])

-- the numbers of a stretch that lie between bounds are a stretch again
pub bounded_stretch : (low high v : ℤ) (count : ℕ) →
    stretch (begin_of low high v) (int_gap (begin_of low high v) (end_of high v count)) ≡ filter (is_between low high) (stretch v count)
bounded_stretch low high v zero = ap (stretch (begin_of low high v)) (none_at_first low high v)
bounded_stretch low high v (suc count) =
    let begin = begin_of low high v in
    let gap = int_gap begin (end_of high v count) in
    let test = is_between low high in
    elim (cases_Bool (test (v +ℤ pos count))) [
      | inl inside ↦
          ap (stretch begin) (one_more low high v count inside)
          ∙ next_of begin gap
          ∙ ap (λ (n : ℤ). stretch begin gap ++ n ∷ []) (the_next low high v count inside)
          ∙ ap (λ (xs : List ℤ). xs ++ (v +ℤ pos count) ∷ []) (bounded_stretch low high v count)
          ∙ sym (split low high v count ∙ rw inside refl)
      | inr outside ↦
          ap (stretch begin) (none_more low high v count outside)
          ∙ bounded_stretch low high v count
          ∙ sym (split low high v count ∙ rw outside (append-nil (filter test (stretch v count))))
    ]

begin_saturated : (low high v : ℤ) → IsNearNumber low → IsNearNumber high → begin_of low high (saturate_signed w64 v) ≡ begin_of low high v
begin_saturated low high v near_low near_high = grind (arith, ints)

gap_saturated : (low high v : ℤ) (count : ℕ) → count ≤ 4 → IsNearNumber low → IsNearNumber high →
    int_gap (begin_of low high v) (int_min (saturate_signed w64 (saturate_signed w64 v +ℤ pos count)) high) ≡ int_gap (begin_of low high v) (end_of high v count)
gap_saturated low high v count few near_low near_high = grind (arith, ints)

few_between : (low high v : ℤ) (count : ℕ) → int_gap (begin_of low high v) (end_of high v count) ≤ count
few_between low high v count = grind (arith, ints)

pub begin_near : (low high v : ℤ) → IsNearNumber low → IsNearNumber high → IsNearNumber (begin_of low high v)
begin_near low high v near_low near_high = (grind (arith, ints), grind (arith, ints))

along_is : (point : Bool) (ratio : ℕ) (n : ℤ) → children_along point ratio n ≡ stretch (pos ratio *ℤ n) (width_along point ratio)
along_is true ratio n = ap (λ (m : ℤ). m ∷ []) (let e : pos ratio *ℤ n ≡ (pos ratio *ℤ n) +ℤ pos 0 = grind (arith, ints) in e)
along_is false ratio n = refl

pub children_within : (low high : ℤ) (point : Bool) (ratio : ℕ) (n begin end first : ℤ) (count : ℕ) → ratio ≤ 4 → IsNearNumber low → IsNearNumber high →
    begin ≡ saturate_signed w64 (pos ratio *ℤ n) → end ≡ saturate_signed w64 (begin +ℤ pos (width_along point ratio)) → first ≡ begin_of low high begin →
    count ≡ min (int_gap first (int_min end high)) 4 → stretch first count ≡ inner_children low high point ratio n
children_within low high point ratio n begin end first count few near_low near_high at_begin at_end at_first counted_few =
    let v = pos ratio *ℤ n in
    let wide : width_along point ratio ≤ 4 = elim point as (λ (b : Bool). width_along b ratio ≤ 4) [ true ↦ omega arith | false ↦ few ] in
    let same_first : first ≡ begin_of low high v = at_first ∙ ap (begin_of low high) at_begin ∙ begin_saturated low high v near_low near_high in
    let same_gap : int_gap first (int_min end high) ≡ int_gap (begin_of low high v) (end_of high v (width_along point ratio)) =
    ap (λ (m : ℤ). int_gap m (int_min end high)) same_first
    ∙ ap (λ (m : ℤ). int_gap (begin_of low high v) (int_min m high)) (at_end ∙ ap (λ (m : ℤ). saturate_signed w64 (m +ℤ pos (width_along point ratio))) at_begin)
    ∙ gap_saturated low high v (width_along point ratio) wide near_low near_high in
    let same_count : count ≡ int_gap (begin_of low high v) (end_of high v (width_along point ratio)) =
    omega (arith, counted_few, same_gap, few_between low high v (width_along point ratio)) in
    ap (λ (m : ℤ). stretch m count) same_first
    ∙ ap (stretch (begin_of low high v)) same_count
    ∙ bounded_stretch low high v (width_along point ratio)
    ∙ ap (filter (is_between low high)) (sym (along_is point ratio n))
