use Rattle.std.proofs.Common.{refl}
use Rattle.problem_types.specs.Lists.{task_list}
use Rattle.graph_compiler.proofs.OneLine.{are_once}
use Rattle.graph_compiler.proofs.laws.slots_stand_once.Goals as goal

pub returns : goal.returns
returns c = λ p list form accepted of_two. are_once p (task_list p list) form accepted (list, of_two, refl)
