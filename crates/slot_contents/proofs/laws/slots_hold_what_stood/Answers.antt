use Rattle.slot_contents.proofs.Holding.{slots_hold}
use Rattle.slot_contents.proofs.laws.slots_hold_what_stood.Goals as goal

pub returns : goal.returns
returns c = slots_hold
