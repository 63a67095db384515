use Rattle.std.proofs.Common.{◌≡◌, ◌≤◌, ℕ, [], ◌∷◌, arith, below_more}
use Rattle.uts_geom.specs.Spans.{width_of}
use Rattle.uts_geom.specs.declared.centring.Centring.{Centring}
use Rattle.uts_geom.specs.declared.span.Span.{Span}
use Rattle.problem_types.specs.Regions.{spaces_of}
use Rattle.plain_engine.proofs.places.longest_row.Goals as goal

pub loop-level-preserved : goal.loop-level-preserved
loop-level-preserved c =
    let loop = c.loop-level.invariant in
    record {
      wide = λ level k s below one.
          below_more (λ (n : ℕ). (k : Centring) (s : Span) → spaces_of c.args.c.now n k ≡ s ∷ [] → width_of s ≤ c.max-longest.result) c.loop-level.level
          (λ n under k s one. omega (arith, c.max-longest.ensures, loop.wide n k s under one))
          (λ k s one. omega (arith, c.max-longest.ensures, c.row_length.ensures.wide k s one))
          level below k s one;
      narrow = omega (arith, c.max-longest.ensures, loop.narrow, c.row_length.ensures.narrow);
    }
