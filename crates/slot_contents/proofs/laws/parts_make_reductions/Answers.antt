use Rattle.slot_contents.proofs.Making.{parts_make}
use Rattle.slot_contents.proofs.laws.parts_make_reductions.Goals as goal

pub returns : goal.returns
returns c =
    parts_make c.accepted_problems_are_bounded.ensures c.slots_stand_once.ensures c.owned_spans_tile.ensures c.parts_fold_apart.ensures c.order_does_not_matter.ensures
    c.spans_hold_their_indexes.ensures c.indexes_stand_once.ensures
