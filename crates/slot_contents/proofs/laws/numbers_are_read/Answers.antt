use Rattle.slot_contents.proofs.Covering.{numbers_read}
use Rattle.slot_contents.proofs.laws.numbers_are_read.Goals as goal

pub returns : goal.returns
returns c = numbers_read c.accepted_problems_are_bounded.ensures
