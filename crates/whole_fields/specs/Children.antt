-- The children of an index that lie in a span, and what folds over them give.
use Rattle.std.specs.Prelude.{◌≡◌, ℕ, ◌<◌, ℤ, pos, ◌+ℤ◌, Bool, List, length, map, fold, filter, slice_index_or, if◌then◌else◌}
use Rattle.std.specs.List.{flat_map}
use Rattle.uts_geom.specs.Centrings.{is_point_like}
use Rattle.uts_geom.specs.Spans.{index, is_between, counted}
use Rattle.uts_geom.specs.declared.centring.Axis.TheVariants.{X, Y, Z}
use Rattle.uts_geom.specs.declared.centring.Centring.{Centring}
use Rattle.uts_geom.specs.declared.index.Index.{Index}
use Rattle.uts_geom.specs.declared.span.Span.{Span}
use Rattle.problem_types.specs.Regions.{children_along}
use Rattle.problem_types.specs.declared.problem.Fold.{Fold}
use Rattle.reductions.specs.Folding.{combined}

-- so many numbers, from the first on
abbrev pub stretch : ℤ → ℕ → List ℤ
stretch first count = map (λ j. first +ℤ pos j) (counted 0 count)

-- how many coordinates of the next finer level one stands for
abbrev pub width_along : (point : Bool) → (ratio : ℕ) → ℕ
width_along point ratio = if point then 1 else ratio

-- the coordinates on an axis of the next finer level that a coordinate stands for, those from `low` up to, and without, `high`
abbrev pub inner_children : (low high : ℤ) → (point : Bool) → (ratio : ℕ) → ℤ → List ℤ
inner_children low high point ratio n = filter (is_between low high) (children_along point ratio n)

abbrev pub children_on_x : ℕ → Centring → Span → ℤ → List ℤ
children_on_x ratio c s n = inner_children s.lo.x s.hi.x (is_point_like c X) ratio n

abbrev pub children_on_y : ℕ → Centring → Span → ℤ → List ℤ
children_on_y ratio c s n = inner_children s.lo.y s.hi.y (is_point_like c Y) ratio n

abbrev pub children_on_z : ℕ → Centring → Span → ℤ → List ℤ
children_on_z ratio c s n = inner_children s.lo.z s.hi.z (is_point_like c Z) ratio n

-- the children of an index that lie in a span: z outermost, then y, then x
abbrev pub children_in : ℕ → Centring → Span → Index → List Index
children_in ratio c s i =
    flat_map (λ z. flat_map (λ y. map (λ x. index x y z) (children_on_x ratio c s i.x)) (children_on_y ratio c s i.y)) (children_on_z ratio c s i.z)

-- each number of a list was combined with further ones, given by its place
pub record AreFolded (f : Fold) (old new : List ℤ) (more : ℕ → List ℤ) : Type 0 where
  pub long : length new ≡ length old
  pub each : (k : ℕ) → k < length old → slice_index_or new k (pos 0) ≡ fold (combined f) (slice_index_or old k (pos 0)) (more k)
