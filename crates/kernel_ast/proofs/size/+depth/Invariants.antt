-- each part is less deep
use Rattle.kernel_ast.specs.Size.{depth_of}
use Rattle.kernel_ast.proofs.size.+depth.Given as goal

abbrev pub decreases-depth : goal.decreases-depth
decreases-depth l = depth_of l.e.now
