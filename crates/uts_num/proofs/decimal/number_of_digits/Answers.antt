use Rattle.std.proofs.Common.{arith}
use Rattle.std.proofs.lemmas.Grind.{common_steps}
use Rattle.uts_num.proofs.Numerals.{cannot_go_on}
use Rattle.uts_num.proofs.decimal.number_of_digits.Goals as goal

pub returns-in_err-number : goal.returns-in_err-number
returns-in_err-number c =
    let stops = cannot_go_on c.args.bytes.now c.loop-byte.byte-index c.loop-byte.number (omega arith) c.loop-byte.invariant.1 c.in_err-number.ensures in
    grind (arith, common_steps, stops)
