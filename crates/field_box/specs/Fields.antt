-- Fields: a number for each index of a span.
use Rattle.std.specs.Prelude.{◌≡◌, ℕ, ◌<◌, ℤ, pos, ◌+ℤ◌, Bool, ◌&&◌, List, IsTrue, map, position, slice_index_or}
use Rattle.std.specs.Option.{option_map_or}
use Rattle.std.specs.Ordering.{int_eq}
use Rattle.uts_geom.specs.Spans.{index, counted, indexes_of, is_between, is_inside}
use Rattle.uts_geom.specs.declared.index.Index.{Index}
use Rattle.uts_geom.specs.declared.span.Span.{Span}
use Rattle.uts_geom.specs.SameIndexes.{is_same_index}

-- a span, and the numbers of its indexes in their order: x goes fastest, then y, then z
pub record NumberedSpan : Type 0 where
  pub span : Span
  pub numbers : List ℤ

-- the number of an index: the one that stands at its place among the indexes of the span, and 0 where the span does not hold it
unfoldable pub number_at : NumberedSpan → Index → ℤ
number_at f i = option_map_or (λ place. slice_index_or f.numbers place (pos 0)) (position (λ j. is_same_index i j) (indexes_of f.span)) (pos 0)

-- this is the field on a span that has these numbers
pub record IsField (s : Span) (number : Index → ℤ) (f : NumberedSpan) : Type 0 where
  pub span : f.span ≡ s
  pub numbers : (i : Index) → IsTrue (is_inside s i) → number_at f i ≡ number i

-- so many indexes from one on along x
abbrev pub along : Index → ℕ → List Index
along first count = map (λ k. index (first.x +ℤ pos k) first.y first.z) (counted 0 count)

-- an index is one of so many from another on along x
abbrev pub is_along : (first : Index) → ℕ → Index → Bool
is_along first count i = is_between first.x (first.x +ℤ pos count) i.x && (int_eq i.y first.y && int_eq i.z first.z)

-- a span holds so many indexes from one on along x
pub record HoldsAlong (s : Span) (first : Index) (count : ℕ) : Type 0 where
  pub each : (k : ℕ) → k < count → IsTrue (is_inside s (index (first.x +ℤ pos k) first.y first.z))

-- a span has a row at this y and z
abbrev pub IsRow : Span → ℤ × ℤ → Type 0
IsRow s at = IsTrue (is_inside s (index s.lo.x at.0 at.1))
