use Rattle.uts_geom.proofs.Sets.{stand_once}
use Rattle.uts_geom.proofs.laws.indexes_stand_once.Goals as goal

pub returns : goal.returns
returns c = stand_once
