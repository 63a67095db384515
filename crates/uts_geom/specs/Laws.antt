-- When spans meet.
use Rattle.std.specs.Prelude.{◌↔◌, IsTrue}
use Rattle.uts_geom.specs.Spans.{is_inside, do_meet}
use Rattle.uts_geom.specs.declared.index.Index.{Index}
use Rattle.uts_geom.specs.declared.span.Span.{Span}

-- two spans meet exactly where an index lies in both
abbrev pub SpansMeetInIndexes : Type 0
SpansMeetInIndexes = (a b : Span) → IsTrue (do_meet a b) ↔ ((i : Index) × IsTrue (is_inside a i) × IsTrue (is_inside b i))
