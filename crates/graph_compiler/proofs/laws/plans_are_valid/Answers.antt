use Rattle.graph_compiler.proofs.ValidPlans.{plans_valid}
use Rattle.graph_compiler.proofs.laws.plans_are_valid.Goals as goal

pub returns : goal.returns
returns c = plans_valid
