-- An index in a span, axis by axis.
use Rattle.std.proofs.Common.{◌≡◌, true}
use Rattle.std.proofs.lemmas.Bool.{and_from, and_parts}
use Rattle.uts_geom.specs.declared.index.Index.{Index}
use Rattle.uts_geom.specs.declared.span.Span.{Span}
use Rattle.uts_geom.specs.Spans.{is_between, is_inside}

pub record LiesInside (s : Span) (i : Index) : Type 0 where
  pub x : is_between s.lo.x s.hi.x i.x ≡ true
  pub y : is_between s.lo.y s.hi.y i.y ≡ true
  pub z : is_between s.lo.z s.hi.z i.z ≡ true

pub by_axes : (s : Span) (i : Index) → is_inside s i ≡ true → LiesInside s i
by_axes s i inside =
    let on_x = and_parts _ _ inside in
    let on_y = and_parts _ _ on_x.1 in
    record { x = on_x.0; y = on_y.0; z = on_y.1 }

pub inside_from_axes : (s : Span) (i : Index) → LiesInside s i → is_inside s i ≡ true
inside_from_axes s i on = and_from _ _ on.x (and_from _ _ on.y on.z)
