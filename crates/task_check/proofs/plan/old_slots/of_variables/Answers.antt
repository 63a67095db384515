use Rattle.std.proofs.Common.{arith, ◌≤◌, ◌<◌, ◌*◌, length, map}
use Rattle.std.specs.List.{flat_map}
use Rattle.uts_geom.specs.Spans.{counted}
use Rattle.problem_types.specs.Lists.{task_list}
use Rattle.problem_types.specs.declared.problem.Var.{Var}
use Rattle.task_check.specs.Plan.{Old, patches_of}
use Rattle.task_check.proofs.Accepted.{few_variables}
use Rattle.task_check.proofs.Tallies.{tally_listed, at_most, at_most_more}
use Rattle.task_check.proofs.plan.old_slots.of_variables.Goals as goal

pub both-tally-requires-clause-few_slots : goal.both-tally-requires-clause-few_slots
both-tally-requires-clause-few_slots c =
    let below : c.loop-v.v-index < length c.args.p.now.vars = rw c.as_slice-v-items.ensures at c.loop-v-test.true in
    omega (arith, c.loop-v.invariant.few.slots, below, few_variables c.args.p.now c.requires.faultless)

pub both-tally-requires-clause-few_numbers : goal.both-tally-requires-clause-few_numbers
both-tally-requires-clause-few_numbers c =
    let below : c.loop-v.v-index < length c.args.p.now.vars = rw c.as_slice-v-items.ensures at c.loop-v-test.true in
    omega (arith, c.loop-v.invariant.few.numbers, below, few_variables c.args.p.now c.requires.faultless)

pub loop-v-preserved : goal.loop-v-preserved
loop-v-preserved c = record {
  tally = tally_listed c.args.p.now (task_list c.args.p.now c.args.list)
      (λ (v : Var). flat_map (λ level. flat_map (λ material. map (Old v.name level material) (patches_of c.args.p.now level)) (counted 0 c.args.p.now.materials.value))
      (counted 0 (length c.args.p.now.levels)))
      c.args.p.now.vars c.as_slice-v-items.result.now c.loop-v.v-index _ c.loop-v.tally c.of_variable.result c.both-tally.result c.as_slice-v-items.ensures c.loop-v-test.true
      c.loop-v.invariant.tally c.of_variable.ensures.tally c.both-tally.ensures.slots c.both-tally.ensures.numbers;
  few = at_most_more (1024 * 8 * 4) c.loop-v.v-index c.loop-v.tally c.of_variable.result c.both-tally.result c.loop-v.invariant.few c.of_variable.ensures.few
      c.both-tally.ensures.slots c.both-tally.ensures.numbers;
}

pub returns-clause-few : goal.returns-clause-few
returns-clause-few c =
    let within : c.loop-v.v-index ≤ length c.args.p.now.vars = rw c.as_slice-v-items.ensures at c.loop-v.auto.v-index-end in
    at_most (1024 * 8 * 4 * c.loop-v.v-index) (1024 * 8 * 4 * 64) c.loop-v.tally (omega (arith, within, few_variables c.args.p.now c.requires.faultless))
    c.loop-v.invariant.few
