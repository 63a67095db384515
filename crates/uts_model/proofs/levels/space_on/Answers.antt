use Rattle.std.proofs.Common.{subst, sym}
use Rattle.uts_model.specs.Grids.{AreBoundedLevels}
use Rattle.uts_model.proofs.Accepted.{bounded_levels}
use Rattle.uts_model.proofs.levels.space_on.Goals as goal

pub space-requires : goal.space-requires
space-requires c = subst AreBoundedLevels (sym c.problem.ensures.problem) (bounded_levels c.args.c.now c.bounds.ensures.limits)
