use Rattle.std.proofs.Common.{subst, sym}
use Rattle.task_check.specs.Kept.{AreRight}
use Rattle.task_check.proofs.plan.kept.Touches.count.Goals as goal

pub returns-in-Some-clause-few : goal.returns-in-Some-clause-few
returns-in-Some-clause-few c = (c.in-Some.ensures c.args.p.now (subst (AreRight c.args.p.now) (sym c.as_slice.ensures) c.requires.kept)).1
