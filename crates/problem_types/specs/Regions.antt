-- The index spaces of a problem's levels, and where a level's indexes lie on its neighbours.
use Rattle.std.specs.Prelude.{ℕ, ℤ, pos, ◌+◌, ◌+ℤ◌, ◌*ℤ◌, Bool, true, false, List, [], ◌∷◌, map, slice_get, slice_index, slice_index_or}
use Rattle.std.specs.Int.{int_div_euclid}
use Rattle.std.specs.List.{filter, flat_map, list_any}
use Rattle.std.specs.Option.{option_map_or}
use Rattle.uts_geom.specs.Spans.{index, is_inside, counted, indexes_of as indexes_of_span}
use Rattle.uts_geom.specs.Centrings.{is_point_like}
use Rattle.uts_geom.specs.declared.index.Index.{Index}
use Rattle.uts_geom.specs.declared.span.Span.{Span}
use Rattle.uts_geom.specs.declared.centring.Axis.TheVariants.{X, Y, Z}
use Rattle.uts_geom.specs.declared.centring.Centring.{Centring}
use Rattle.problem_types.specs.declared.problem.Problem.{Problem}
use Rattle.problem_types.specs.declared.problem.BoxLine.{BoxLine}
use Rattle.problem_types.specs.declared.problem.Level.{Level}

-- where an index space ends on an axis: a point-like one holds the high bound besides
abbrev pub end_of : Bool → ℕ → ℤ
end_of true high = pos (high + 1)
end_of false high = pos high

-- the index space of a centring on a box
abbrev pub space_of : Centring → BoxLine → Span
space_of c b = record {
  lo = index (pos (slice_index b.lo 0)) (pos (slice_index b.lo 1)) (pos (slice_index b.lo 2));
  hi = index (end_of (is_point_like c X) (slice_index b.hi 0)) (end_of (is_point_like c Y) (slice_index b.hi 1))
      (end_of (is_point_like c Z) (slice_index b.hi 2));
}

-- the index spaces of a level's boxes, in the order of its lines
abbrev pub spaces_on : Centring → Level → List Span
spaces_on c l = map (space_of c) l.boxes

-- the same by the level's number in a problem
abbrev pub spaces_of : Problem → ℕ → Centring → List Span
spaces_of p level c = option_map_or (spaces_on c) (slice_get p.levels level) []

-- the index lies in one of the spaces
abbrev pub is_in_spaces : List Span → Index → Bool
is_in_spaces spaces i = list_any (λ s. is_inside s i) spaces

-- all indexes of the spaces, in order
abbrev pub indexes_in : List Span → List Index
indexes_in spaces = flat_map indexes_of_span spaces

-- whether an index lies in the index space of a problem's level, and all that do, in order
abbrev pub is_in_space : Problem → ℕ → Centring → Index → Bool
is_in_space p level c i = is_in_spaces (spaces_of p level c) i

abbrev pub indexes_of : Problem → ℕ → Centring → List Index
indexes_of p level c = indexes_in (spaces_of p level c)

-- an index by an offset away
abbrev pub moved : Index → Index → Index
moved i by = index (i.x +ℤ by.x) (i.y +ℤ by.y) (i.z +ℤ by.z)

-- an offset, of which a read has one number an axis
abbrev pub offset_of : List ℤ → Index
offset_of by = index (slice_index_or by 0 (pos 0)) (slice_index_or by 1 (pos 0)) (slice_index_or by 2 (pos 0))

-- the refinement ratio of a level to the next coarser one
abbrev pub ratio_of : Problem → ℕ → ℕ
ratio_of p level = option_map_or (λ l. l.ratio) (slice_get p.levels level) 1

-- the index of the next coarser level in which an index lies, rounded down
abbrev pub coarse_index : ℕ → Index → Index
coarse_index ratio i =
    index (int_div_euclid i.x (pos ratio)) (int_div_euclid i.y (pos ratio)) (int_div_euclid i.z (pos ratio))

-- the coordinates on an axis of the next finer level that a coordinate stands for
abbrev pub children_along : Bool → ℕ → ℤ → List ℤ
children_along true ratio k = (pos ratio *ℤ k) ∷ []
children_along false ratio k = map (λ j. pos ratio *ℤ k +ℤ pos j) (counted 0 ratio)

-- the children of an index on the next finer level that lie in its index space
abbrev pub children_of : Problem → ℕ → Centring → Index → List Index
children_of p level c i =
    let ratio = ratio_of p (level + 1) in
    filter (is_in_space p (level + 1) c)
    (flat_map (λ z. flat_map (λ y. map (λ x. index x y z) (children_along (is_point_like c X) ratio i.x))
    (children_along (is_point_like c Y) ratio i.y))
    (children_along (is_point_like c Z) ratio i.z))
