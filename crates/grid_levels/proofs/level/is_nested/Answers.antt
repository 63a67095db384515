use Rattle.grid_levels.proofs.Single.{has_corner, nested_by_one}
use Rattle.grid_levels.proofs.level.is_nested.Goals as goal

pub lies_in-requires : goal.lies_in-requires
lies_in-requires c =
    rw c.divided.ensures.divided (has_corner c.args.level.now c.level_box.result c.level_box.ensures.only c.requires.ratio c.requires.tiled c.requires.multiples)

pub returns : goal.returns
returns c =
    let nested = nested_by_one c.args.coarser.now c.args.level.now c.level_box-2.result c.level_box.result c.level_box-2.ensures.only c.level_box.ensures.only in
    let lies = rw (c.divided.ensures.divided, c.cells.ensures.cells) at c.lies_in.ensures in
    (λ yes'. nested.0 (lies.0 yes'), λ h. lies.1 (nested.1 h))
