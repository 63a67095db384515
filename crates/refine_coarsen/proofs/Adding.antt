-- Numbers of indexes, combined one after another.
use Rattle.std.proofs.Common.{◌≡◌, ◌∙◌, ◌≤◌, ◌<◌, ◌+◌, ◌^◌, ℕ, suc, ℤ, pos, ◌+ℤ◌, ◌≤ℤ◌, ◌<ℤ◌, List, [], ◌∷◌, ◌++◌, length, map, fold, Bool, true, false, refl, ap, sym, arith, rules, w64}
use Rattle.std.specs.Prelude.{IsTrue, if◌then◌else◌}
use Rattle.std.specs.Int.{int_gap, int_max}
use Rattle.std.specs.List.{filter, flat_map}
use Rattle.std.proofs.lemmas.Int.{ints, int_wrap_fits}
use Rattle.std.proofs.lemmas.List.{map-append, append-nil, length-map}
use Rattle.std.proofs.lemmas.List.Concat.{flat_map-append}
use Rattle.std.proofs.lemmas.List.Elements.{filter-append}
use Rattle.std.proofs.lemmas.List.Sums.{fold-append}
use Rattle.kernel_ast.specs.Arithmetic.{sum_of}
use Rattle.kernel_ast.specs.Form.{is_fine}
use Rattle.kernel_ast.specs.declared.expression.How.{How}
use Rattle.kernel_ast.specs.declared.expression.How.TheVariants.{Same, Coarse, FineSum, FineMin, FineMax, FineCount}
use Rattle.uts_geom.specs.Spans.{counted, from_to, is_inside}
use Rattle.uts_geom.specs.declared.index.Index.{Index}
use Rattle.reductions.specs.Folding.{combined, identity_of}
use Rattle.ghost_gather.specs.Windows.{WindowData}
use Rattle.refine_coarsen.specs.FineFolds.{fine_fold_of, fold_for, number_for, number_within, with_indexes}

pub with_none : (how : How) (w : WindowData) (before : ℤ) → with_indexes how w before [] ≡ before
unfolding with_indexes
with_none how w before = refl

pub with_held : (how : How) (w : WindowData) (before : ℤ) (i : Index) → is_inside w.space i ≡ true →
    with_indexes how w before (i ∷ []) ≡ combined (fold_for how) before (number_for how w i)
unfolding with_indexes
with_held how w before i held =
    ap (λ (t : Bool). fold (combined (fold_for how)) before (map (number_for how w) (if t then i ∷ [] else []))) held

pub with_other : (how : How) (w : WindowData) (before : ℤ) (i : Index) → is_inside w.space i ≡ false → with_indexes how w before (i ∷ []) ≡ before
unfolding with_indexes
with_other how w before i beyond =
    ap (λ (t : Bool). fold (combined (fold_for how)) before (map (number_for how w) (if t then i ∷ [] else []))) beyond

with_append : (how : How) (w : WindowData) (before : ℤ) (xs ys : List Index) →
    with_indexes how w before (xs ++ ys) ≡ with_indexes how w (with_indexes how w before xs) ys
unfolding with_indexes
with_append how w before xs ys =
    let held = is_inside w.space in
    let number = number_for how w in
    let f = combined (fold_for how) in
    ap (λ (l : List Index). fold f before (map number l)) (filter-append held xs ys)
    ∙ ap (fold f before) (map-append number (filter held xs) (filter held ys))
    ∙ fold-append f before (map number (filter held xs)) (map number (filter held ys))

gap_none : (low : ℤ) → int_gap low low ≡ 0
gap_none low = grind (arith, ints)

gap_more : (low n : ℤ) → low ≤ℤ n → int_gap low (n +ℤ pos 1) ≡ suc (int_gap low n)
gap_more low n above = grind (arith, ints)

gap_last : (low n : ℤ) → low ≤ℤ n → low +ℤ pos (0 + int_gap low n) ≡ n
gap_last low n above = grind (arith, ints)

gap_end : (low high n : ℤ) → low ≤ℤ n → n ≤ℤ int_max low high → high ≤ℤ n → int_gap low n ≡ int_gap low high
gap_end low high n above within end = grind (arith, ints)

from_to_none : (low : ℤ) → from_to low low ≡ []
from_to_none low = ap (λ (k : ℕ). map (λ j. low +ℤ pos j) (counted 0 k)) (gap_none low)

from_to_more : (low n : ℤ) → low ≤ℤ n → from_to low (n +ℤ pos 1) ≡ from_to low n ++ n ∷ []
from_to_more low n above =
    let f : ℕ → ℤ = λ j. low +ℤ pos j in
    let k = int_gap low n in
    ap (λ (m : ℕ). map f (counted 0 m)) (gap_more low n above)
    ∙ map-append f (counted 0 k) ((0 + k) ∷ [])
    ∙ ap (λ (last : ℤ). from_to low n ++ last ∷ []) (gap_last low n above)

from_to_end : (low high n : ℤ) → low ≤ℤ n → n ≤ℤ int_max low high → high ≤ℤ n → from_to low n ≡ from_to low high
from_to_end low high n above within end = ap (λ (k : ℕ). map (λ j. low +ℤ pos j) (counted 0 k)) (gap_end low high n above within end)

-- so far the numbers of these pieces of a span were combined: those from `low` up to, and without, `n`
pub record AreCombined (how : How) (w : WindowData) (before low high : ℤ) (piece : ℤ → List Index) (n number : ℤ) : Type 0 where
  pub above : low ≤ℤ n
  pub within : n ≤ℤ int_max low high
  pub all : number ≡ with_indexes how w before (flat_map piece (from_to low n))

module _ (how : How) (w : WindowData) (before low high : ℤ) (piece : ℤ → List Index) where
  pub none_combined : AreCombined how w before low high piece low before
  none_combined = record {
    above = omega (arith, ints);
    within = grind (arith, ints);
    all = sym (ap (λ (l : List ℤ). with_indexes how w before (flat_map piece l)) (from_to_none low) ∙ with_none how w before);
  }

  pub more_combined : (n all new : ℤ) → n <ℤ high → AreCombined how w before low high piece n all → new ≡ with_indexes how w all (piece n) →
      AreCombined how w before low high piece (n +ℤ pos 1) new
  more_combined n all new below so_far is = record {
    above = omega (arith, ints, so_far.above);
    within = grind (arith, ints);
    all =
        let pieces : flat_map piece (from_to low (n +ℤ pos 1)) ≡ flat_map piece (from_to low n) ++ piece n =
        ap (flat_map piece) (from_to_more low n so_far.above)
        ∙ flat_map-append piece (from_to low n) (n ∷ [])
        ∙ ap (λ (l : List Index). flat_map piece (from_to low n) ++ l) (append-nil (piece n)) in
        is
        ∙ ap (λ (m : ℤ). with_indexes how w m (piece n)) so_far.all
        ∙ sym (with_append how w before (flat_map piece (from_to low n)) (piece n))
        ∙ sym (ap (with_indexes how w before) pieces);
  }

  pub all_combined : (n all : ℤ) → high ≤ℤ n → AreCombined how w before low high piece n all →
      all ≡ with_indexes how w before (flat_map piece (from_to low high))
  all_combined n all end so_far =
      so_far.all ∙ ap (λ (l : List ℤ). with_indexes how w before (flat_map piece l)) (from_to_end low high n so_far.above so_far.within end)

one_more : (a : ℕ) → a + 1 < 2 ^ 63 → sum_of (pos a) (pos 1) ≡ pos (a + 1)
one_more a few = int_wrap_fits w64 (pos (a + 1)) (search rules)

-- ones add up to how many they are
ones : (a : ℕ) (xs : List Index) → a + length xs < 2 ^ 63 → fold sum_of (pos a) (map (λ i. pos 1) xs) ≡ pos (a + length xs)
ones a [] few = ap pos (omega arith)
ones a (x ∷ xs) few =
    ap (λ (n : ℤ). fold sum_of n (map (λ i. pos 1) xs)) (one_more a (omega arith))
    ∙ ones (a + 1) xs (omega arith)
    ∙ ap pos (omega arith)

fewer : (p : Index → Bool) (xs : List Index) → length (filter p xs) ≤ length xs
fewer p [] = omega arith
fewer p (x ∷ xs) = by_test (p x) (fewer p xs)
  where
    by_test : (t : Bool) → length (filter p xs) ≤ length xs → length (if t then x ∷ filter p xs else filter p xs) ≤ suc (length xs)
    by_test true rest = omega arith
    by_test false rest = omega arith

pub is_fold : (how : How) (w : WindowData) (xs : List Index) → IsTrue (is_fine how) → length xs < 2 ^ 63 →
    with_indexes how w (identity_of (fold_for how)) xs ≡ fine_fold_of how w xs
unfolding with_indexes
is_fold Same w xs fine few = absurd cc
is_fold Coarse w xs fine few = absurd cc
is_fold FineSum w xs fine few = refl
is_fold FineMin w xs fine few = refl
is_fold FineMax w xs fine few = refl
is_fold FineCount w xs fine few =
    let held = filter (is_inside w.space) xs in
    let fits : 0 + length held < 2 ^ 63 = omega (arith, fewer (is_inside w.space) xs) in
    ones 0 held fits ∙ ap pos (let e : 0 + length held ≡ length held = omega arith in e) ∙ sym (ap pos (length-map held (number_within w)))
