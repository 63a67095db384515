use Rattle.std.proofs.Common.{◌≡◌, ℕ, ◌<◌, false}
use Rattle.uts_geom.specs.Spans.{is_inside}
use Rattle.patch_regions.specs.Regions.{owned_span}
use Rattle.patch_regions.proofs.owners.some_owner.Given as goal

abbrev pub invariant-loop-patch : goal.invariant-loop-patch
invariant-loop-patch l = (k : ℕ) → k < l.patch → is_inside (owned_span l.c l.level k) l.i ≡ false
