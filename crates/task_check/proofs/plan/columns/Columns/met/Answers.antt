use Rattle.std.proofs.Common.{arith, ◌≡◌, ◌≤◌, ◌+◌, ◌∙◌, ap, ℕ}
use Rattle.std.specs.List.{count_by}
use Rattle.uts_geom.specs.Spans.{counted, do_meet}
use Rattle.task_check.proofs.Touching.{count_more, one_at_most, byte_is}
use Rattle.task_check.proofs.plan.columns.Columns.met.Goals as goal

pub loop-place-preserved : goal.loop-place-preserved
loop-place-preserved c = record {
  count = λ own s spans cut some.
      ap (λ m. c.loop-place.n + m) (c.from-n.ensures ∙ byte_is c.meets.result)
      ∙ count_more (λ place. do_meet (own place) s) c.loop-place.place c.loop-place.n c.meets.result
      (c.loop-place.invariant.count own s spans cut some)
      (c.meets.ensures (own c.loop-place.place) s (spans c.loop-place.place c.loop-place-test.true) cut some);
  few = let small : c.from-n.result ≤ 1 = rw (c.from-n.ensures, byte_is c.meets.result) (one_at_most c.meets.result) in omega (arith, small, c.loop-place.invariant.few);
}

pub returns-clause-count : goal.returns-clause-count
returns-clause-count c = λ own s spans cut some.
    let end : c.loop-place.place ≡ c.args.self.now.count = omega arith in
    c.loop-place.invariant.count own s spans cut some ∙ ap (λ (n : ℕ). count_by (λ place. do_meet (own place) s) (counted 0 n)) end
