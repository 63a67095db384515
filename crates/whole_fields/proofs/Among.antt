-- The numbers that stand for indexes in order.
use Rattle.std.proofs.Common.{◌≡◌, ◌≢◌, ◌∙◌, ℕ, ℤ, pos, List, length, map, get_or, Some, refl, ap, sym, arith}
use Rattle.std.specs.Prelude.{◌&&◌, AllPairs, Contains, slice_get, slice_index_or, position}
use Rattle.std.specs.Bool.{Decides}
use Rattle.std.specs.List.{position_or_len}
use Rattle.std.specs.Ordering.{int_eq}
use Rattle.std.proofs.lemmas.Bool.{lt-ltb, false_from_ne_true}
use Rattle.std.proofs.lemmas.Bool.Decides.{Decides-int_eq, Decides-and, Decides-like}
use Rattle.std.proofs.lemmas.List.{get_or-map}
use Rattle.std.proofs.lemmas.List.Sums.{position_or_len_is}
use Rattle.std.proofs.lemmas.Option.{slice_get_within, get_or_from_slice_get, slice_get-get_or}
use Rattle.uts_geom.specs.declared.index.Index.{Index}
use Rattle.uts_geom.specs.Spans.{index}
use Rattle.uts_geom.specs.SameIndexes.{position_of_index}
use Rattle.whole_fields.specs.Stored.{found, number_among}

module _ (indexes : List Index) (once : AllPairs ◌≢◌ indexes) where
  pub number_at_place : (numbers : List ℤ) (k : ℕ) (i : Index) → slice_get indexes k ≡ Some i → number_among indexes numbers i ≡ slice_index_or numbers k (pos 0)
  number_at_place numbers k i at = ap (λ o. found o numbers) (position_of_index indexes once k i at)

  -- numbers that a function gives at the indexes in order
  pub number_by_function : (f : Index → ℤ) (numbers : List ℤ) (i : Index) → numbers ≡ map f indexes → Contains indexes i → number_among indexes numbers i ≡ f i
  number_by_function f numbers i given (k, within, here) =
      number_at_place numbers k i (slice_get-get_or indexes k i within ∙ ap (λ (j : Index). Some j) here)
      ∙ ap (λ (l : List ℤ). slice_index_or l k (pos 0)) given
      ∙ get_or-map f indexes k i (pos 0) within
      ∙ ap f here
