-- The index spaces of levels within the limits of the grid have short rows.
use Rattle.std.proofs.Common.{◌≡◌, ◌≤◌, ◌+◌, ℕ, pos, List, [], ◌∷◌, map, Bool, true, false, refl, sym, subst, arith}
use Rattle.std.specs.Prelude.{All, slice_index}
use Rattle.std.proofs.lemmas.Int.{ints}
use Rattle.std.proofs.lemmas.List.Elements.{All-head}
use Rattle.uts_geom.specs.Spans.{width_of}
use Rattle.uts_geom.specs.declared.centring.Centring.{Centring}
use Rattle.uts_geom.specs.declared.span.Span.{Span}
use Rattle.problem_types.specs.Levels.{HasNearBounds, KeepsGridLimits}
use Rattle.problem_types.specs.Regions.{end_of, space_of, spaces_on}
use Rattle.problem_types.specs.declared.problem.BoxLine.{BoxLine}
use Rattle.problem_types.specs.declared.problem.Level.{Level}

short_row : (s : Span) (point : Bool) (low high : ℕ) → s.lo.x ≡ pos low → s.hi.x ≡ end_of point high → high ≤ 4096 → width_of s ≤ 4097
short_row s true low high begins ends small = rw (begins, ends) (omega arith)
short_row s false low high begins ends small = rw (begins, ends) (omega arith)

narrow_in : (c : Centring) (boxes : List BoxLine) (s : Span) → All HasNearBounds boxes → map (space_of c) boxes ≡ s ∷ [] → width_of s ≤ 4097
narrow_in c [] s near one = absurd cc
narrow_in c (b ∷ boxes) s near one =
    let same : space_of c b ≡ s = cc in
    rw (sym same) (short_row (space_of c b) _ (slice_index b.lo 0) (slice_index b.hi 0) refl refl (All-head HasNearBounds b boxes near 0 (omega arith)).1)

pub narrow_space : (c : Centring) (l : Level) (s : Span) → KeepsGridLimits l → spaces_on c l ≡ s ∷ [] → width_of s ≤ 4097
narrow_space c l s limits one = narrow_in c l.boxes s limits.boxes one
