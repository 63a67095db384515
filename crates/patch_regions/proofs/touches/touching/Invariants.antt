use Rattle.std.proofs.Common.{◌≡◌}
use Rattle.std.specs.Prelude.{filter}
use Rattle.uts_geom.specs.Spans.{counted}
use Rattle.uts_geom.specs.Spans.{do_meet}
use Rattle.patch_regions.specs.Regions.{owned_span}
use Rattle.patch_regions.proofs.touches.touching.Given as goal

abbrev pub invariant-loop-patch : goal.invariant-loop-patch
invariant-loop-patch l = l.found.items ≡ filter (λ k. do_meet (owned_span l.c l.level k) l.s) (counted 0 l.patch)
