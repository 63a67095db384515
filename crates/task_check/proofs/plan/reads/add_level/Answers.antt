use Rattle.std.proofs.Common.{arith, ◌<◌, ◌+◌, ◌*◌, length}
use Rattle.task_check.specs.Reading.{requirement_reads, level_reads}
use Rattle.task_check.proofs.Details.{has_few}
use Rattle.task_check.proofs.Totals.{product_fits, level_there, sound_at, given_up, above_limit, times_above}
use Rattle.task_check.proofs.plan.reads.add_level.Goals as goal

pub requirement_reads-requires-clause-few : goal.requirement_reads-requires-clause-few
requirement_reads-requires-clause-few c =
    let below : c.loop-r.r-index < length c.args.t.now.requirements = rw c.as_slice-r-items.ensures at c.loop-r-test.true in
    rw c.as_slice-r-items.ensures
    (sound_at c.args.p.now c.requires.form c.requires.faultless c.args.t.now c.requires.task c.args.level c.requires.level c.loop-r.r-index _ below).few

pub requirement_reads-requires-clause-level : goal.requirement_reads-requires-clause-level
requirement_reads-requires-clause-level c =
    level_there c.args.p.now c.requires.form c.requires.faultless c.args.t.now c.requires.task c.args.level c.requires.level

pub requirement_reads-requires-clause-wanted : goal.requirement_reads-requires-clause-wanted
requirement_reads-requires-clause-wanted c =
    let below : c.loop-r.r-index < length c.args.t.now.requirements = rw c.as_slice-r-items.ensures at c.loop-r-test.true in
    rw c.as_slice-r-items.ensures
    (sound_at c.args.p.now c.requires.form c.requires.faultless c.args.t.now c.requires.task c.args.level c.requires.level c.loop-r.r-index _ below).wanted

pub overflow_mul-materials : goal.overflow_mul-materials
overflow_mul-materials c =
    let few = has_few c.args.p.now c.args.t.now c.requires.form c.requires.faultless c.requires.task in
    omega (arith, product_fits c.len-materials.result c.requirement_reads.result 8 (omega (arith, few.materials, c.len-materials.ensures)) c.requirement_reads.ensures.few)

pub overflow_add-total : goal.overflow_add-total
overflow_add-total c =
    let few = has_few c.args.p.now c.args.t.now c.requires.form c.requires.faultless c.requires.task in
    omega (
      arith,
      c.loop-r.invariant.few,
      product_fits c.len-materials.result c.requirement_reads.result 8 (omega (arith, few.materials, c.len-materials.ensures)) c.requirement_reads.ensures.few,
    )

pub returns-in_err-total : goal.returns-in_err-total
returns-in_err-total c = record {
  total = given_up (c.args.before + level_reads c.args.p.now c.args.t.now c.args.level) c.from_residual.result c.from_residual.ensures
      (times_above (length c.args.t.now.materials) (requirement_reads c.args.p.now c.args.t.now c.args.level) c.args.t.now.requirements c.as_slice-r-items.result.now
      c.loop-r.r-index _ c.args.before c.loop-r.total c.len-materials.result c.requirement_reads.result c.as_slice-r-items.ensures c.loop-r-test.true
      c.loop-r.invariant.count c.len-materials.ensures c.requirement_reads.ensures.reads
      (above_limit (c.loop-r.total + c.len-materials.result * c.requirement_reads.result) c.up_to_limit.result c.in_err-total.was c.up_to_limit.ensures));
  kept = c.requirement_reads.ensures.kept;
}
