-- What the patches of a level own, together: all indexes of the level, in another order.
use Rattle.std.proofs.Common.{◌≡◌, ◌≢◌, ◌<◌, ℕ, List, [], ◌∷◌, Option, None, Some, true, length, map, sym, refl, arith, subst}
use Rattle.std.specs.Prelude.{◌↔◌, slice_get, AllPairs, Contains, IsPermutation, IsTrue, pos}
use Rattle.std.specs.List.{flat_map, list_any}
use Rattle.std.specs.Option.{option_map_or}
use Rattle.std.proofs.lemmas.List.{append-nil}
use Rattle.std.proofs.lemmas.List.Sorted.{IsPermutation-refl}
use Rattle.uts_geom.specs.Spans.{counted, index, indexes_of as indexes_of_span, is_inside}
use Rattle.uts_geom.specs.Counting.{length-counted}
use Rattle.uts_geom.specs.declared.centring.Centring.{Centring}
use Rattle.uts_geom.specs.declared.index.Index.{Index}
use Rattle.uts_geom.specs.declared.span.Span.{Span}
use Rattle.uts_geom.specs.Lists.{contains_at}
use Rattle.problem_types.specs.Levels.{IsTiled, is_on_level}
use Rattle.problem_types.specs.Regions.{indexes_of, is_in_space, space_of, spaces_on}
use Rattle.problem_types.specs.declared.problem.BoxLine.{BoxLine}
use Rattle.problem_types.specs.declared.problem.Level.{Level}
use Rattle.problem_types.specs.declared.problem.Problem.{Problem}
use Rattle.patch_regions.specs.OnGrid.{one_box_apart}
use Rattle.patch_regions.specs.Laws.{OwnedSpansTile}
use Rattle.patch_regions.specs.Regions.{owned_span}
use Rattle.task_check.specs.Bounds.{IsBounded}
use Rattle.task_check.specs.Plan.{patches_of}
use Rattle.slot_contents.specs.Contents.{owned_on}
use Rattle.slot_contents.proofs.Listed.{any_in, in_counted, in_flat_map, passing}
use Rattle.slot_contents.proofs.Once.{IsOnce, IsOnce-counted, IsOnce-flat_map, IsOnce-from_pairs, of_counted, of_flat_map, same_members}

-- what a patch of no level owns
abbrev pub nowhere : Span
nowhere = record { lo = index (pos 0) (pos 0) (pos 0); hi = index (pos 0) (pos 0) (pos 0) }

-- an index that a patch owns lies in the level's index space
pub owned_in_space : (p : Problem) (level patch : ℕ) (c : Centring) (i : Index) → IsBounded p → OwnedSpansTile → patch < length (patches_of p level) →
    IsTrue (is_inside (owned_on p level patch c) i) → is_in_space p level c i ≡ true
owned_in_space p level patch c i limits tile patch_there owned = by_level (slice_get p.levels level) refl patch_there owned
  where
    by_level : (o : Option Level) → slice_get p.levels level ≡ o → patch < length (counted 0 (option_map_or (λ l. length l.patches) o 0)) →
        IsTrue (is_inside (option_map_or (λ l. owned_span c l patch) o nowhere) i) → list_any (λ s. is_inside s i) (option_map_or (λ l. map (space_of c) l.boxes) o []) ≡ true
    by_level None at below inside = absurd (omega (arith, below))
    by_level (Some l) at below inside =
        let bounded = limits.levels level l at in
        (tile l c i bounded.good.tiled (one_box_apart c l bounded.limits.one_box)).0.1 (patch, (omega (arith, below, length-counted 0 (length l.patches)), inside))

module _ (holds : (s : Span) (i : Index) → Contains (indexes_of_span s) i ↔ IsTrue (is_inside s i)) (once : (s : Span) → AllPairs ◌≢◌ (indexes_of_span s)) (tile : OwnedSpansTile) (c : Centring) where
  module _ (l : Level) (tiled : IsTiled l) (one_box : length l.boxes ≡ 1) where
    abbrev owned_by_patch : List Index
    owned_by_patch = flat_map (λ patch. indexes_of_span (owned_span c l patch)) (counted 0 (length l.patches))

    abbrev on_level : List Index
    on_level = flat_map indexes_of_span (spaces_on c l)

    once_owned : IsOnce owned_by_patch
    once_owned = IsOnce-flat_map (λ patch. indexes_of_span (owned_span c l patch)) (counted 0 (length l.patches)) (IsOnce-counted (length l.patches))
        (λ patch. IsOnce-from_pairs (indexes_of_span (owned_span c l patch)) (once (owned_span c l patch)))
        (λ j k i j_there k_there in_j in_k. (tile l c i tiled (one_box_apart c l one_box)).1 j k
        (of_counted (length l.patches) j j_there, (holds (owned_span c l j) i).0 in_j)
        (of_counted (length l.patches) k k_there, (holds (owned_span c l k) i).0 in_k))

    once_on_level : IsOnce on_level
    once_on_level = by_boxes l.boxes one_box
      where
        by_boxes : (boxes : List BoxLine) → length boxes ≡ 1 → IsOnce (flat_map indexes_of_span (map (space_of c) boxes))
        by_boxes [] one = absurd (omega (arith, one))
        by_boxes (b ∷ []) one = subst (λ (is : List Index). IsOnce is) (sym (append-nil (indexes_of_span (space_of c b)))) (IsOnce-from_pairs (indexes_of_span (space_of c b)) (once (space_of c b)))
        by_boxes (b ∷ d ∷ bs) one = absurd (omega (arith, one))

    to_level : (i : Index) → Contains owned_by_patch i → Contains on_level i
    to_level i there =
        let patch = of_flat_map (λ patch. indexes_of_span (owned_span c l patch)) (counted 0 (length l.patches)) i there in
        let within : is_on_level c l i ≡ true = (tile l c i tiled (one_box_apart c l one_box)).0.1 (patch.0, (of_counted (length l.patches) patch.0 patch.1, (holds (owned_span c l patch.0) i).0 patch.2)) in
        let space = passing (λ s. is_inside s i) (spaces_on c l) within in
        in_flat_map indexes_of_span (spaces_on c l) space.item i (contains_at (spaces_on c l) space.place space.item space.at) ((holds space.item i).1 space.passes)

    to_patches : (i : Index) → Contains on_level i → Contains owned_by_patch i
    to_patches i there =
        let space = of_flat_map indexes_of_span (spaces_on c l) i there in
        let owns = (tile l c i tiled (one_box_apart c l one_box)).0.0 (any_in (λ s. is_inside s i) (spaces_on c l) space.0 space.1 ((holds space.0 i).0 space.2)) in
        in_flat_map (λ patch. indexes_of_span (owned_span c l patch)) (counted 0 (length l.patches)) owns.0 i (in_counted (length l.patches) owns.0 owns.1.0) ((holds (owned_span c l owns.0) i).1 owns.1.1)

    level_owned : IsPermutation owned_by_patch on_level
    level_owned = same_members owned_by_patch on_level once_owned once_on_level to_level to_patches

  -- the indexes that the patches own, patch by patch, are those of the level's index space
  pub owned_together : (p : Problem) (level : ℕ) → IsBounded p → IsPermutation (flat_map (λ patch. indexes_of_span (owned_on p level patch c)) (patches_of p level)) (indexes_of p level c)
  owned_together p level limits = by_level (slice_get p.levels level) refl
    where
      by_level : (o : Option Level) → slice_get p.levels level ≡ o →
          IsPermutation (flat_map (λ patch. indexes_of_span (option_map_or (λ l. owned_span c l patch) o nowhere)) (counted 0 (option_map_or (λ l. length l.patches) o 0)))
          (flat_map indexes_of_span (option_map_or (λ l. map (space_of c) l.boxes) o []))
      by_level None at = IsPermutation-refl []
      by_level (Some l) at = let bounded = limits.levels level l at in level_owned l bounded.good.tiled bounded.limits.one_box
