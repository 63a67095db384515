use Rattle.slot_contents.proofs.Holding.{outside_stands}
use Rattle.slot_contents.proofs.laws.outside_stands_outside.Goals as goal

pub returns : goal.returns
returns c = outside_stands
