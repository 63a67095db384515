use Rattle.patch_regions.proofs.Halves.{halves_tiled, halves_limits}
use Rattle.patch_regions.proofs.tests.halves.Goals as goal

pub returns-clause-tiled : goal.returns-clause-tiled
returns-clause-tiled c = halves_tiled _ c.in_ok-boxes.ensures c.in_ok-patches.ensures

pub returns-clause-limits : goal.returns-clause-limits
returns-clause-limits c = halves_limits _ c.in_ok-boxes.ensures c.in_ok-patches.ensures
