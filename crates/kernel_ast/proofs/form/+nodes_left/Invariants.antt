-- each part may be less deep
use Rattle.kernel_ast.proofs.form.+nodes_left.Given as goal

abbrev pub decreases-nodes_left : goal.decreases-nodes_left
decreases-nodes_left l = l.depth
