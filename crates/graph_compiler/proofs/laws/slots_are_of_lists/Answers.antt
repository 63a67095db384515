use Rattle.graph_compiler.proofs.Standing.{slot_is_of_list}
use Rattle.graph_compiler.proofs.laws.slots_are_of_lists.Goals as goal

pub returns : goal.returns
returns c = slot_is_of_list
