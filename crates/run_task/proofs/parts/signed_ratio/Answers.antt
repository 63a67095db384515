use Rattle.std.proofs.Common.{◌≤◌, sym, arith}
use Rattle.std.proofs.lemmas.Int.{ints}
use Rattle.run_task.proofs.Refinement.{small_ratio}
use Rattle.run_task.proofs.parts.signed_ratio.Goals as goal

pub overflow_cast-result : goal.overflow_cast-result
overflow_cast-result c = let small : c.ratio_on.result ≤ 4 = small_ratio c.ratio_on.result c.ratio_on.ensures.good in grind (arith, ints, small)

pub returns : goal.returns
returns c =
    let few : c.ratio_on.result ≤ 4 = small_ratio c.ratio_on.result c.ratio_on.ensures.good in
    rw (sym c.ratio_on.ensures.ratio) (grind (arith, ints, few))
