use Rattle.patch_regions.proofs.Tiling.{tile}
use Rattle.patch_regions.proofs.laws.owned_spans_tile.Goals as goal

pub returns : goal.returns
returns c = tile
