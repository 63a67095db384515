use Rattle.uts_geom.proofs.Meeting.{meet_in_indexes}
use Rattle.uts_geom.proofs.laws.spans_meet_in_indexes.Goals as goal

pub returns : goal.returns
returns c = meet_in_indexes
