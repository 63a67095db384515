-- each part has fewer nodes
use Rattle.kernel_ast.specs.Size.{node_count}
use Rattle.kernel_ast.proofs.size.+nodes.Given as goal

abbrev pub decreases-nodes : goal.decreases-nodes
decreases-nodes l = node_count l.e.now
