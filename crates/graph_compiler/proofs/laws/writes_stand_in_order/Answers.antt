use Rattle.graph_compiler.proofs.Writing.{written_in_order}
use Rattle.graph_compiler.proofs.laws.writes_stand_in_order.Goals as goal

pub returns : goal.returns
returns c = λ p list place d form accepted of_two. written_in_order p form accepted list of_two place d
