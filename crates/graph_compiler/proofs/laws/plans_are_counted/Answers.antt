use Rattle.graph_compiler.proofs.CountedPlans.{plans_counted}
use Rattle.graph_compiler.proofs.laws.plans_are_counted.Goals as goal

pub returns : goal.returns
returns c = plans_counted
