use Rattle.slot_contents.proofs.Holding.{numbers_hold}
use Rattle.slot_contents.proofs.laws.numbers_hold_what_stood.Goals as goal

pub returns : goal.returns
returns c = numbers_hold c.slots_stand_once.ensures
