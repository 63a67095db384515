-- A walk over the rows of a span.
use Rattle.std.specs.Prelude.{ℤ, List, drop}
use Rattle.uts_geom.specs.declared.row_walk.Rows.{Rows}
use Rattle.uts_geom.specs.Spans.{rows_of}

-- the rows that the walk has left
unfoldable pub rows_left : Rows → List (ℤ × ℤ)
rows_left r = drop r.done (rows_of r.span)
