use Rattle.uts_geom.proofs.Sets.{holds}
use Rattle.uts_geom.proofs.laws.spans_hold_their_indexes.Goals as goal

pub returns : goal.returns
returns c = holds
