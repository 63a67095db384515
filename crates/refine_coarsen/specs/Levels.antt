-- Indexes on neighbouring levels.
use Rattle.std.specs.Prelude.{◌≡◌, ℕ, ◌+◌, ℤ, pos, ◌+ℤ◌, ◌*ℤ◌, nat_abs, ◌⊎◌, List, map, if◌then◌else◌}
use Rattle.std.specs.List.{filter, flat_map}
use Rattle.std.proofs.Common.{refl}
use Rattle.uts_geom.specs.Centrings.{is_point_like}
use Rattle.uts_geom.specs.Spans.{index}
use Rattle.uts_geom.specs.declared.centring.Axis.TheVariants.{X, Y, Z}
use Rattle.uts_geom.specs.declared.centring.Centring.{Centring}
use Rattle.uts_geom.specs.declared.index.Index.{Index}
use Rattle.uts_geom.specs.declared.span.Span.{Span}
use Rattle.problem_types.specs.Regions.{children_along, children_of, is_in_space, ratio_of}
use Rattle.problem_types.specs.declared.problem.Problem.{Problem}

-- a level other than the coarsest is refined by 2 or 4
abbrev pub IsRatio : ℤ → Type 0
IsRatio ratio = (ratio ≡ pos 2) ⊎ (ratio ≡ pos 4)

-- the children of an index at a ratio, wherever the finer level ends: x goes fastest, then y, then z
abbrev pub children_at : (ratio : ℕ) → Centring → Index → List Index
children_at ratio c i =
    flat_map (λ z. flat_map (λ y. map (λ x. index x y z) (children_along (is_point_like c X) ratio i.x))
    (children_along (is_point_like c Y) ratio i.y))
    (children_along (is_point_like c Z) ratio i.z)

-- the span that they fill
abbrev pub span_of_children : (ratio : ℤ) → Centring → Index → Span
span_of_children ratio c i = record {
  lo = index (pos (nat_abs ratio) *ℤ i.x) (pos (nat_abs ratio) *ℤ i.y) (pos (nat_abs ratio) *ℤ i.z);
  hi = index (pos (nat_abs ratio) *ℤ i.x +ℤ (if is_point_like c X then pos 1 else ratio))
      (pos (nat_abs ratio) *ℤ i.y +ℤ (if is_point_like c Y then pos 1 else ratio))
      (pos (nat_abs ratio) *ℤ i.z +ℤ (if is_point_like c Z then pos 1 else ratio));
}

-- those of a problem are the ones that the index space of the finer level holds
pub children_of_problem : (p : Problem) (level : ℕ) (c : Centring) (i : Index) →
    children_of p level c i ≡ filter (is_in_space p (level + 1) c) (children_at (ratio_of p (level + 1)) c i)
children_of_problem p level c i = refl
