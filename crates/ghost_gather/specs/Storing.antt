-- Which indexes a window stores.
use Rattle.std.specs.Prelude.{◌≡◌, ◌&&◌}
use Rattle.uts_geom.specs.Spans.{is_inside, meet_of, IsNearSpan}
use Rattle.uts_geom.specs.declared.index.Index.{Index}
use Rattle.uts_geom.specs.declared.span.Span.{Span}

-- these are the indexes that a span and an index space have in common
pub record IsStored (span space stored : Span) : Type 0 where
  pub near : IsNearSpan span
  pub near_space : IsNearSpan space
  pub corners : stored ≡ meet_of span space
  pub inside : (i : Index) → is_inside stored i ≡ (is_inside span i && is_inside space i)
