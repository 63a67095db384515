use Rattle.std.proofs.Common.{arith, ◌≤◌, ◌+◌, get_or, length, refl, ap}
use Rattle.task_check.specs.Reading.{level_reads, task_reads}
use Rattle.task_check.proofs.Details.{has_few}
use Rattle.task_check.proofs.Totals.{given_up, product_fits, total_above, total_more}
use Rattle.task_check.proofs.plan.reads.add_task.Goals as goal

pub returns-in_err-total : goal.returns-in_err-total
returns-in_err-total c =
    let above = total_above (level_reads c.args.p.now c.args.t.now) c.args.t.now.levels c.as_slice-level-items.result.now c.loop-level.level-index 0 c.args.before c.loop-level.total
    (level_reads c.args.p.now c.args.t.now (get_or c.as_slice-level-items.result.now c.loop-level.level-index 0)) c.as_slice-level-items.ensures c.loop-level-test.true
    c.loop-level.invariant.count refl c.in_err-total.ensures.total in
    record {
      total = given_up (c.args.before + task_reads c.args.p.now c.args.t.now) c.from_residual.result c.from_residual.ensures (omega (arith, above));
      kept = c.add_level.ensures.kept;
    }

pub loop-level-preserved : goal.loop-level-preserved
loop-level-preserved c =
    let next = c.in_ok-total.ensures.total in
    record {
      count = total_more (level_reads c.args.p.now c.args.t.now) c.args.t.now.levels c.as_slice-level-items.result.now c.loop-level.level-index 0 c.args.before c.loop-level.total
          c.in_ok-total.total c.as_slice-level-items.ensures c.loop-level-test.true c.loop-level.invariant.count next.0;
      few = omega (arith, next.0, next.1);
      kept = c.add_level.ensures.kept;
    }

pub overflow_mul-reduces_count : goal.overflow_mul-reduces_count
overflow_mul-reduces_count c =
    let few = has_few c.args.p.now c.args.t.now c.requires.form c.requires.faultless c.requires.task in
    let lines : c.reduces_count.result ≤ 64 = omega (arith, few.lines, c.reduces_count.ensures.within, ap length c.as_slice.ensures) in
    omega (arith, product_fits c.reduces_count.result c.part_count.result 64 lines (omega (arith, c.part_count.ensures.few)))

pub overflow_add-total : goal.overflow_add-total
overflow_add-total c =
    let few = has_few c.args.p.now c.args.t.now c.requires.form c.requires.faultless c.requires.task in
    let lines : c.reduces_count.result ≤ 64 = omega (arith, few.lines, c.reduces_count.ensures.within, ap length c.as_slice.ensures) in
    omega (arith, c.loop-level.invariant.few, product_fits c.reduces_count.result c.part_count.result 64 lines (omega (arith, c.part_count.ensures.few)))
