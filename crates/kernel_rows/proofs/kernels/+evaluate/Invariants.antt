-- each part is less deep
use Rattle.kernel_ast.specs.Size.{depth_of}
use Rattle.kernel_rows.proofs.kernels.+evaluate.Given as goal

abbrev pub decreases-evaluate : goal.decreases-evaluate
decreases-evaluate g l = depth_of l.kernel.now
