use Rattle.std.proofs.Common.{◌≡◌, ◌+◌, ◌-◌, ◌*◌}
use Rattle.kernel_parse.specs.Signs.{op_of}
use Rattle.kernel_parse.specs.Reading.{parsed, more_at, chain_of, operand_at, expression_at}
use Rattle.kernel_parse.specs.Source.{CanRead, Extends, lexemes}
use Rattle.kernel_parse.proofs.Chains.{rank}
use Rattle.kernel_parse.proofs.parser.+parser.Given as goal

abbrev pub decreases-expression : goal.decreases-expression
decreases-expression l = 256 * l.levels

abbrev pub decreases-comparison : goal.decreases-comparison
decreases-comparison l = 256 * l.levels + 220

abbrev pub decreases-chain : goal.decreases-chain
decreases-chain l = 256 * l.levels + 2 * l.depth + 2 * rank l.kind + 71

abbrev pub decreases-operand : goal.decreases-operand
decreases-operand l = 256 * l.levels + 2 * l.depth + 2 * rank l.kind + 70

abbrev pub decreases-unary : goal.decreases-unary
decreases-unary l = 256 * l.levels + l.depth + 4

abbrev pub decreases-primary : goal.decreases-primary
decreases-primary l = 256 * l.levels + 3

abbrev pub decreases-call : goal.decreases-call
decreases-call l = 256 * l.levels + 2

abbrev pub decreases-select : goal.decreases-select
decreases-select l = 256 * l.levels + 2

abbrev pub decreases-argument : goal.decreases-argument
decreases-argument l = 256 * l.levels + 1

abbrev pub invariant-chain-loop : goal.invariant-chain-loop
invariant-chain-loop l = record {
  read : more_at (op_of l.kind) (operand_at l.kind (expression_at l.levels)) l.depth (l.depth - l.counter) (parsed l.left.expr l.names (lexemes l.text l.rest))
      ≡ chain_of l.kind (expression_at l.levels) l.depth l.fn.names (lexemes l.text l.tokens);
  readable : CanRead l.text l.names l.rest;
  kept : Extends l.fn.names l.names;
}
