use Rattle.patch_regions.specs.OnGrid.{one_box_apart}
use Rattle.patch_regions.specs.Regions.{Owns}
use Rattle.patch_regions.proofs.Found.{the_owner}
use Rattle.patch_regions.proofs.owners.owner.Goals as goal

pub returns-clause-owner : goal.returns-clause-owner
returns-clause-owner c =
    let l = c.args.level.now in
    the_owner (λ k. Owns c.args.c l k c.args.i) c.some_owner.result c.some_owner.ensures.owns c.some_owner.ensures.none
    (c.owned_spans_tile.ensures l c.args.c c.args.i c.requires.tiled (one_box_apart c.args.c l c.requires.limits.one_box)).1
