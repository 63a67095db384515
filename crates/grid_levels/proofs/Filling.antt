-- Patches that lie in a box and share no cell fill it exactly where their volumes add up to its own.
use Rattle.std.proofs.Common.{◌≡◌, ◌≢◌, ◌∙◌, ◌≤◌, ◌+◌, List, [], ◌∷◌, Bool, true, length, get_or, ap, sym, refl, arith}
use Rattle.std.specs.Prelude.{◌&&◌, ◌↔◌, IsTrue, All, AllPairs, Any, Contains}
use Rattle.std.specs.Bool.{Decides}
use Rattle.std.specs.Ordering.{int_eq}
use Rattle.std.specs.List.{count_by, sum_by, list_any}
use Rattle.std.proofs.lemmas.Bool.Decides.{Decides-int_eq, Decides-and, Decides-like}
use Rattle.std.proofs.lemmas.List.Elements.{All-head, All-tail, All-contains, Contains-get_or}
use Rattle.std.proofs.lemmas.List.Folds.{Any-from_list_any, list_any-from_Any}
use Rattle.std.proofs.lemmas.List.Sums.{sum_by-cons, count_by-le-length}
use Rattle.uts_geom.specs.declared.index.Index.{Index}
use Rattle.uts_geom.specs.declared.span.Span.{Span}
use Rattle.uts_geom.specs.Spans.{index, is_inside, indexes_of}
use Rattle.problem_types.specs.declared.problem.BoxLine.{BoxLine}
use Rattle.problem_types.specs.Levels.{cells_of, LiesIn, AreApart}
use Rattle.grid_levels.proofs.Counting.{count-from_list, count_of_some, all_from_count, count_from_all}

unfoldable same_index : Index → Index → Bool
same_index a b = int_eq a.x b.x && (int_eq a.y b.y && int_eq a.z b.z)

by_coordinates : (a b : Index) → (a.x ≡ b.x) → (a.y ≡ b.y) → (a.z ≡ b.z) → a ≡ b
by_coordinates a b x y z = ap (λ n. index n a.y a.z) x ∙ ap (λ n. index b.x n a.z) y ∙ ap (λ n. index b.x b.y n) z

same_decides : (a b : Index) → Decides (same_index a b) (a ≡ b)
unfolding same_index
same_decides a b =
    Decides-like (same_index a b) (λ h. by_coordinates a b h.0 h.1.0 h.1.1) (λ e. (ap (λ i. i.x) e, (ap (λ i. i.y) e, ap (λ i. i.z) e)))
    (Decides-and (int_eq a.x b.x) (int_eq a.y b.y && int_eq a.z b.z) (Decides-int_eq a.x b.x)
    (Decides-and (int_eq a.y b.y) (int_eq a.z b.z) (Decides-int_eq a.y b.y) (Decides-int_eq a.z b.z)))

module _ (holds : (s : Span) (i : Index) → Contains (indexes_of s) i ↔ IsTrue (is_inside s i)) (once : (s : Span) → AllPairs ◌≢◌ (indexes_of s)) where
  -- the indexes of a span, counted among those of one that it lies in
  counted_in : (s t : Span) → LiesIn s t → count_by (is_inside s) (indexes_of t) ≡ length (indexes_of s)
  counted_in s t lies =
      count-from_list same_decides (is_inside s) (indexes_of t) (indexes_of s) (once t) (once s)
      (λ i. ((holds s i).1, (holds s i).0))
      (λ i h. (holds t i).1 (lies i ((holds s i).0 h)))

  module _ (t : Span) where
    volumes : (qs : List BoxLine) → All (λ q. LiesIn (cells_of q) t) qs →
        sum_by (λ q. length (indexes_of (cells_of q))) qs ≡ sum_by (λ q. count_by (is_inside (cells_of q)) (indexes_of t)) qs
    volumes [] inside = refl
    volumes (q ∷ qs) inside =
        sum_by-cons (λ r. length (indexes_of (cells_of r))) q qs
        ∙ ap (λ n. n + sum_by (λ r. length (indexes_of (cells_of r))) qs) (sym (counted_in (cells_of q) t (All-head (λ r. LiesIn (cells_of r) t) q qs inside)))
        ∙ ap (λ n. count_by (is_inside (cells_of q)) (indexes_of t) + n) (volumes qs (All-tail (λ r. LiesIn (cells_of r) t) q qs inside))
        ∙ sym (sum_by-cons (λ r. count_by (is_inside (cells_of r)) (indexes_of t)) q qs)

    module _ (qs : List BoxLine) (inside : All (λ q. LiesIn (cells_of q) t) qs) (apart : AllPairs (λ q r. AreApart (cells_of q) (cells_of r)) qs) where
      unfoldable is_taken : Index → Bool
      is_taken i = list_any (λ q. is_inside (cells_of q) i) qs

      taken : count_by is_taken (indexes_of t) ≡ sum_by (λ q. length (indexes_of (cells_of q))) qs
      unfolding is_taken
      taken = count_of_some (λ q. is_inside (cells_of q)) qs (indexes_of t) apart ∙ sym (volumes qs inside)

      pub volumes_fit : sum_by (λ q. length (indexes_of (cells_of q))) qs ≤ length (indexes_of t)
      volumes_fit = omega (arith, taken, count_by-le-length is_taken (indexes_of t))

      pub filled_from_volumes : sum_by (λ q. length (indexes_of (cells_of q))) qs ≡ length (indexes_of t) →
          (i : Index) → IsTrue (is_inside t i) → Any (λ q. IsTrue (is_inside (cells_of q) i)) qs
      unfolding is_taken
      filled_from_volumes full i in_t =
          Any-from_list_any (λ q. is_inside (cells_of q) i) qs
          (All-contains (λ j. is_taken j ≡ true) (indexes_of t) i (all_from_count is_taken (indexes_of t) (taken ∙ full)) ((holds t i).1 in_t))

      pub volumes_from_filled : ((i : Index) → IsTrue (is_inside t i) → Any (λ q. IsTrue (is_inside (cells_of q) i)) qs) →
          sum_by (λ q. length (indexes_of (cells_of q))) qs ≡ length (indexes_of t)
      unfolding is_taken
      volumes_from_filled filled =
          sym taken
          ∙ count_from_all is_taken (indexes_of t) (λ k d below.
          list_any-from_Any (λ q. is_inside (cells_of q) (get_or (indexes_of t) k d)) qs
          (filled (get_or (indexes_of t) k d) ((holds t (get_or (indexes_of t) k d)).0 (Contains-get_or (indexes_of t) k d below))))
