use Rattle.std.proofs.Common.{arith}
use Rattle.std.proofs.lemmas.Grind.{common_steps}
use Rattle.uts_io.specs.Streams.{TakesFront-append}
use Rattle.uts_io.proofs.whole.read_all.Goals as goal

-- the bytes before this chunk, and the chunk, which memory did not suffice for
pub returns-in_err-map_err-in-Got-clause-front : goal.returns-in_err-map_err-in-Got-clause-front
returns-in_err-map_err-in-Got-clause-front g c =
    (_, TakesFront-append _ _ _ _ _ c.loop-n.invariant.takes c.in-Got.ensures.got.2)

-- the bytes before this chunk, and the chunk, which goes one past the limit
pub returns-then-len-limit-clause-too_long : goal.returns-then-len-limit-clause-too_long
returns-then-len-limit-clause-too_long g c = λ _. (
  _,
  grind (arith, common_steps, c.in-Got.ensures.got.1),
  TakesFront-append _ _ _ _ _ c.loop-n.invariant.takes c.in-Got.ensures.got.2,
)
