use Rattle.reductions.proofs.Combining.{order_does_not_matter}
use Rattle.reductions.proofs.laws.order_does_not_matter.Goals as goal

pub returns : goal.returns
returns c = order_does_not_matter
