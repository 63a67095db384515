use Rattle.std.proofs.Common.{subst, sym}
use Rattle.uts_model.specs.Grids.{AreBoundedLevels}
use Rattle.uts_model.proofs.Accepted.{bounded_levels}
use Rattle.uts_model.proofs.levels.ratio_on.Goals as goal

pub ratio-requires : goal.ratio-requires
ratio-requires c = subst AreBoundedLevels (sym c.problem.ensures.problem) (bounded_levels c.args.c.now c.bounds.ensures.limits)
