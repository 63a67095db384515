use Rattle.ghost_rules.proofs.Fitting.{offsets_fit}
use Rattle.ghost_rules.proofs.laws.offsets_fit_windows.Goals as goal

pub returns : goal.returns
returns c = offsets_fit
