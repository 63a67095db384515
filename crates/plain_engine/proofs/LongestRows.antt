-- Which index space of a level has the longest rows.
use Rattle.std.proofs.Common.{◌≡◌, ◌∙◌, ◌≤◌, ◌+◌, ℕ, pos, List, [], ◌∷◌, map, Bool, true, false, Option, Some, None, ap, subst, sym, refl, arith, append-nil, All}
use Rattle.std.specs.Prelude.{slice_get, slice_index}
use Rattle.std.specs.Int.{int_gap}
use Rattle.std.specs.List.{flat_map}
use Rattle.std.specs.Option.{option_map_or}
use Rattle.std.proofs.lemmas.Int.{ints}
use Rattle.std.proofs.lemmas.List.Elements.{All-head}
use Rattle.uts_geom.specs.Spans.{IsNearSpan, width_of, indexes_of as indexes_of_span}
use Rattle.uts_geom.specs.Centrings.{is_point_like}
use Rattle.uts_geom.specs.declared.centring.Axis.TheVariants.{X}
use Rattle.uts_geom.specs.declared.centring.Centring.{Centring}
use Rattle.uts_geom.specs.declared.centring.Centring.TheVariants.{Node}
use Rattle.uts_geom.specs.declared.span.Span.{Span}
use Rattle.problem_types.specs.Levels.{HasNearBounds, KeepsGridLimits}
use Rattle.problem_types.specs.NearSpaces.{space_near}
use Rattle.problem_types.specs.Regions.{end_of, indexes_of, space_of, spaces_of, spaces_on}
use Rattle.problem_types.specs.declared.problem.BoxLine.{BoxLine}
use Rattle.problem_types.specs.declared.problem.Level.{Level}
use Rattle.problem_types.specs.declared.problem.Problem.{Problem}

longest_on_points : (point : Bool) (low high : ℕ) → int_gap (pos low) (end_of point high) ≤ int_gap (pos low) (pos (high + 1))
longest_on_points true low high = omega arith
longest_on_points false low high = omega (arith, ints)

nodes_longest_in : (c : Centring) (boxes : List BoxLine) (nodes s : Span) → map (space_of Node) boxes ≡ nodes ∷ [] → map (space_of c) boxes ≡ s ∷ [] →
    width_of s ≤ width_of nodes
nodes_longest_in c [] nodes s all one = absurd cc
nodes_longest_in c (b ∷ boxes) nodes s all one =
    let same_nodes : space_of Node b ≡ nodes = cc in
    let same : space_of c b ≡ s = cc in
    subst (λ (t : Span). width_of s ≤ width_of t) same_nodes
    (subst (λ (t : Span). width_of t ≤ width_of (space_of Node b)) same
    (longest_on_points (is_point_like c X) (slice_index b.lo 0) (slice_index b.hi 0)))

nodes_longest_on : (c : Centring) (l : Option Level) (nodes s : Span) → option_map_or (λ (m : Level). map (space_of Node) m.boxes) l [] ≡ nodes ∷ [] →
    option_map_or (λ (m : Level). map (space_of c) m.boxes) l [] ≡ s ∷ [] → width_of s ≤ width_of nodes
nodes_longest_on c None nodes s all one = absurd cc
nodes_longest_on c (Some l) nodes s all one = nodes_longest_in c l.boxes nodes s all one

-- no index space of a level has longer rows than that of its nodes
pub nodes_longest : (p : Problem) (level : ℕ) (c : Centring) (nodes s : Span) → spaces_of p level Node ≡ nodes ∷ [] → spaces_of p level c ≡ s ∷ [] →
    width_of s ≤ width_of nodes
nodes_longest p level c nodes s all one = nodes_longest_on c (slice_get p.levels level) nodes s all one
