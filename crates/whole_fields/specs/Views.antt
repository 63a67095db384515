-- Fields on one level, and their rows, as functions.
use Rattle.std.specs.Prelude.{ℤ, List, int_lt, position, slice_index_or, if◌then◌else◌}
use Rattle.std.specs.Int.{int_gap}
use Rattle.std.specs.Option.{option_map_or}
use Rattle.uts_geom.specs.Spans.{indexes_of}
use Rattle.uts_geom.specs.declared.index.Index.{Index}
use Rattle.uts_geom.specs.declared.span.Span.{Span}
use Rattle.uts_geom.specs.SameIndexes.{is_same_index}

-- the number of an index where these numbers stand for the indexes of a span in order, and a blank one where none stands for it
unfoldable pub number_in : Span → List ℤ → (blank : ℤ) → Index → ℤ
number_in s numbers blank i =
    option_map_or (λ place. slice_index_or numbers place blank) (position (λ j. is_same_index i j) (indexes_of s)) blank

-- the number at x of a row whose numbers begin at `low`, with another number before and behind them
unfoldable pub number_along : (low : ℤ) → List ℤ → (outside : ℤ) → ℤ → ℤ
number_along low numbers outside x = if int_lt x low then outside else slice_index_or numbers (int_gap low x) outside
