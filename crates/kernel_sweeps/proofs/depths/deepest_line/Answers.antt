use Rattle.std.proofs.Common.{take, sym, subst, arith}
use Rattle.std.proofs.lemmas.List.{take_all}
use Rattle.std.proofs.lemmas.List.Elements.{All-more, All-weaker, All-same}
use Rattle.problem_types.specs.Form.{IsWriteInForm}
use Rattle.kernel_sweeps.specs.Room.{IsAtMostDeep}
use Rattle.kernel_sweeps.proofs.depths.deepest_line.Goals as goal

pub loop-write-preserved : goal.loop-write-preserved
loop-write-preserved c =
    let loop = c.loop-write.invariant in
    let writes = c.args.writes.now in
    let i = c.loop-write.write-index in
    let here : IsAtMostDeep c.max-deepest.result c.write-item.result = omega (arith, c.max-deepest.ensures, c.depth.ensures) in
    let form = subst (IsWriteInForm c.args.names) (sym c.write-item.is) (c.requires i c.write-item.result (omega arith)) in
    record {
      deep = All-more (IsAtMostDeep c.max-deepest.result) writes i c.write-item.result (omega arith)
          (All-weaker (IsAtMostDeep c.loop-write.deepest) (IsAtMostDeep c.max-deepest.result)
          (λ w deep. omega (arith, deep, c.max-deepest.ensures)) (take i writes) loop.deep)
          (subst (IsAtMostDeep c.max-deepest.result) c.write-item.is here);
      least = λ bound all.
          let item : IsAtMostDeep bound c.write-item.result = subst (IsAtMostDeep bound) (sym c.write-item.is) (all i c.write-item.result (omega arith)) in
          omega (arith, loop.least bound all, item, c.max-deepest.ensures, c.depth.ensures);
      shallow = omega (arith, loop.shallow, c.max-deepest.ensures, c.depth.ensures, form.expr.shallow);
    }

pub returns-clause-deep : goal.returns-clause-deep
returns-clause-deep c =
    let writes = c.args.writes.now in
    let i = c.loop-write.write-index in
    All-same (IsAtMostDeep c.loop-write.deepest) writes (take i writes) (sym (take_all i writes c.loop-write-test.false)) c.loop-write.invariant.deep
