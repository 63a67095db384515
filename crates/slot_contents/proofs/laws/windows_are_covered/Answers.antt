use Rattle.slot_contents.proofs.Covering.{windows_covered}
use Rattle.slot_contents.proofs.laws.windows_are_covered.Goals as goal

pub returns : goal.returns
returns c = windows_covered c.accepted_problems_are_bounded.ensures c.owned_spans_tile.ensures c.spans_meet_in_indexes.ensures
