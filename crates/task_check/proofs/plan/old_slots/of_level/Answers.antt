use Rattle.std.proofs.Common.{arith, ◌*◌, map}
use Rattle.problem_types.specs.Lists.{task_list}
use Rattle.task_check.specs.Plan.{Old, patches_of}
use Rattle.task_check.proofs.Accepted.{few_materials}
use Rattle.task_check.proofs.Tallies.{tally_counted, at_most, at_most_more}
use Rattle.task_check.proofs.plan.old_slots.of_level.Goals as goal

pub both-tally-requires-clause-few_slots : goal.both-tally-requires-clause-few_slots
both-tally-requires-clause-few_slots c =
    omega (arith, c.loop-material.invariant.few.slots, c.loop-material-test.true, few_materials c.args.p.now c.requires.faultless)

pub both-tally-requires-clause-few_numbers : goal.both-tally-requires-clause-few_numbers
both-tally-requires-clause-few_numbers c =
    omega (arith, c.loop-material.invariant.few.numbers, c.loop-material-test.true, few_materials c.args.p.now c.requires.faultless)

pub loop-material-preserved : goal.loop-material-preserved
loop-material-preserved c = record {
  tally = tally_counted c.args.p.now (task_list c.args.p.now c.args.list) (λ material. map (Old c.args.name c.args.level material) (patches_of c.args.p.now c.args.level))
      c.loop-material.material c.loop-material.tally c.of_material.result c.both-tally.result c.loop-material.invariant.tally c.of_material.ensures.tally
      c.both-tally.ensures.slots c.both-tally.ensures.numbers;
  few = at_most_more 1024 c.loop-material.material c.loop-material.tally c.of_material.result c.both-tally.result c.loop-material.invariant.few c.of_material.ensures.few
      c.both-tally.ensures.slots c.both-tally.ensures.numbers;
}

pub returns-clause-few : goal.returns-clause-few
returns-clause-few c =
    at_most (1024 * c.loop-material.material) (1024 * 8) c.loop-material.tally (omega (arith, c.loop-material.auto, few_materials c.args.p.now c.requires.faultless))
    c.loop-material.invariant.few
