use Rattle.slot_contents.proofs.Making.{kernels_make}
use Rattle.slot_contents.proofs.laws.kernels_make_fields.Goals as goal

pub returns : goal.returns
returns c = kernels_make c.accepted_problems_are_bounded.ensures c.slots_stand_once.ensures c.owned_spans_tile.ensures
