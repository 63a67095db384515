use Rattle.std.proofs.Common.{arith}
use Rattle.std.proofs.Math.Nat.{mul-le-mul}
use Rattle.graph_compiler.proofs.sources.line_slot.Goals as goal

pub overflow_mul-result : goal.overflow_mul-result
overflow_mul-result c = omega (arith, mul-le-mul c.requires.before c.requires.lines)

pub overflow_add-result : goal.overflow_add-result
overflow_add-result c = omega (arith, mul-le-mul c.requires.before c.requires.lines)

pub overflow_add-result-2 : goal.overflow_add-result-2
overflow_add-result-2 c = omega (arith, mul-le-mul c.requires.before c.requires.lines)
