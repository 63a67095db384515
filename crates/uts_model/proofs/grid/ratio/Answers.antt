use Rattle.std.proofs.Common.{sym, arith}
use Rattle.uts_model.proofs.LevelSpaces.{ratio_at, ratio_of_none}
use Rattle.uts_model.proofs.grid.ratio.Goals as goal

pub returns-in-Some-clause-ratio : goal.returns-in-Some-clause-ratio
returns-in-Some-clause-ratio c = sym (ratio_at c.args.problem.now c.args.level c.in-Some.l.now c.in-Some.ensures)

pub returns-in-Some-clause-good : goal.returns-in-Some-clause-good
returns-in-Some-clause-good c = (c.requires.each c.args.level c.in-Some.l.now (sym c.in-Some.ensures)).ratio

pub returns-in-Some-clause-some : goal.returns-in-Some-clause-some
returns-in-Some-clause-some c = omega (arith, (c.requires.each c.args.level c.in-Some.l.now (sym c.in-Some.ensures)).ratio)

pub returns-in-Some-clause-small : goal.returns-in-Some-clause-small
returns-in-Some-clause-small c = omega (arith, (c.requires.each c.args.level c.in-Some.l.now (sym c.in-Some.ensures)).ratio)

pub returns-in-None-clause-ratio : goal.returns-in-None-clause-ratio
returns-in-None-clause-ratio c = sym (ratio_of_none c.args.problem.now c.args.level c.in-None.ensures)
