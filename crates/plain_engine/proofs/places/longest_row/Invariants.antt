use Rattle.std.proofs.Common.{◌≡◌, ◌<◌, ◌≤◌, ℕ, [], ◌∷◌}
use Rattle.uts_geom.specs.Spans.{width_of}
use Rattle.uts_geom.specs.declared.centring.Centring.{Centring}
use Rattle.uts_geom.specs.declared.span.Span.{Span}
use Rattle.problem_types.specs.Regions.{spaces_of}
use Rattle.plain_engine.proofs.places.longest_row.Given as goal

-- no row of the levels so far is longer
abbrev pub invariant-loop-level : goal.invariant-loop-level
invariant-loop-level l = record {
  wide : (level : ℕ) (k : Centring) (s : Span) → level < l.level → spaces_of l.c level k ≡ s ∷ [] → width_of s ≤ l.longest;
  narrow : l.longest ≤ 4097;
}
