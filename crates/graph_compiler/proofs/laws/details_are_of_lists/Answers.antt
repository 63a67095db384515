use Rattle.graph_compiler.proofs.Standing.{detail_is_of_list}
use Rattle.graph_compiler.proofs.laws.details_are_of_lists.Goals as goal

pub returns : goal.returns
returns c = detail_is_of_list
