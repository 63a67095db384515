use Rattle.reductions.proofs.Combining.{parts_fold_apart}
use Rattle.reductions.proofs.laws.parts_fold_apart.Goals as goal

pub returns : goal.returns
returns c = parts_fold_apart
