-- Windows: what a task sees of a variable around its patch.
use Rattle.std.specs.Prelude.{◌≡◌, ℤ, IsTrue, if◌then◌else◌}
use Rattle.uts_geom.specs.Spans.{is_inside, meet_of}
use Rattle.uts_geom.specs.declared.index.Index.{Index}
use Rattle.uts_geom.specs.declared.span.Span.{Span}
use Rattle.field_box.specs.Fields.{NumberedSpan, number_at}

-- a span around a patch, the index space of the variable, its number outside that, and the numbers that are stored
pub record WindowData : Type 0 where
  pub span : Span
  pub space : Span
  pub outside : ℤ
  pub stored : NumberedSpan

-- the number of an index in a window: the stored one where the index space holds the index, else the outside number
abbrev pub number_seen : WindowData → Index → ℤ
number_seen w i = if is_inside w.space i then number_at w.stored i else w.outside

-- this is the window on a span of an index space, with the outside number outside it and these numbers inside; it stores no other indexes
-- than the common ones
pub record IsWindow (s index_space : Span) (outside_number : ℤ) (number : Index → ℤ) (w : WindowData) : Type 0 where
  pub span : w.span ≡ s
  pub space : w.space ≡ index_space
  pub outside : w.outside ≡ outside_number
  pub stored : w.stored.span ≡ meet_of s index_space
  pub numbers : (i : Index) → IsTrue (is_inside s i) → number_seen w i ≡ (if is_inside index_space i then number i else outside_number)
