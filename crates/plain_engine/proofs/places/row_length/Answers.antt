use Rattle.std.proofs.Common.{arith}
use Rattle.plain_engine.proofs.LongestRows.{nodes_longest}
use Rattle.plain_engine.proofs.places.row_length.Goals as goal

pub returns-clause-wide : goal.returns-clause-wide
returns-clause-wide c = λ k s one.
    omega (arith, c.width.ensures, nodes_longest c.args.c.now c.args.level k c.space_on.result s (c.space_on.ensures.only c.requires) one)
