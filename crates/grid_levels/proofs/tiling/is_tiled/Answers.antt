use Rattle.std.proofs.Common.{subst, List}
use Rattle.std.specs.Prelude.{◌↔◌, IsTrue, All}
use Rattle.problem_types.specs.declared.problem.BoxLine.{BoxLine}
use Rattle.problem_types.specs.Levels.{IsProper}
use Rattle.grid_levels.proofs.Single.{TilesByParts, by_parts, tiled_from, tiles_from}
use Rattle.grid_levels.proofs.tiling.is_tiled.Goals as goal

pub returns-then-are_proper : goal.returns-then-are_proper
returns-then-are_proper c =
    let l = c.args.level.now in
    let b = c.level_box.result in
    let decides : IsTrue c.tile.result ↔ TilesByParts b l.patches =
    subst (λ (qs : List BoxLine). IsTrue c.tile.result ↔ TilesByParts b qs) c.as_slice-then-are_proper.ensures c.tile.ensures in
    let boxes : All IsProper l.boxes = rw c.as_slice.ensures at (c.are_proper.ensures.0 c.if-are_proper.true) in (
      λ tiles. tiled_from l b c.level_box.ensures.only boxes ((by_parts b l.patches).0 (decides.0 tiles)),
      λ tiled. decides.1 ((by_parts b l.patches).1 (tiles_from l b c.level_box.ensures.only tiled)),
    )
