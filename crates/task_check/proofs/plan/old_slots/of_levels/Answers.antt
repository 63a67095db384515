use Rattle.std.proofs.Common.{arith, ◌*◌, map}
use Rattle.std.specs.List.{flat_map}
use Rattle.uts_geom.specs.Spans.{counted}
use Rattle.problem_types.specs.Lists.{task_list}
use Rattle.task_check.specs.Plan.{Old, patches_of}
use Rattle.task_check.proofs.Accepted.{few_levels}
use Rattle.task_check.proofs.Tallies.{tally_counted, at_most, at_most_more}
use Rattle.task_check.proofs.plan.old_slots.of_levels.Goals as goal

pub both-tally-requires-clause-few_slots : goal.both-tally-requires-clause-few_slots
both-tally-requires-clause-few_slots c =
    omega (arith, c.loop-level.invariant.few.slots, c.loop-level-test.true, few_levels c.args.p.now c.requires.faultless)

pub both-tally-requires-clause-few_numbers : goal.both-tally-requires-clause-few_numbers
both-tally-requires-clause-few_numbers c =
    omega (arith, c.loop-level.invariant.few.numbers, c.loop-level-test.true, few_levels c.args.p.now c.requires.faultless)

pub loop-level-preserved : goal.loop-level-preserved
loop-level-preserved c = record {
  tally = tally_counted c.args.p.now (task_list c.args.p.now c.args.list)
      (λ level. flat_map (λ material. map (Old c.args.name level material) (patches_of c.args.p.now level)) (counted 0 c.args.p.now.materials.value))
      c.loop-level.level c.loop-level.tally c.of_level.result c.both-tally.result c.loop-level.invariant.tally c.of_level.ensures.tally
      c.both-tally.ensures.slots c.both-tally.ensures.numbers;
  few = at_most_more (1024 * 8) c.loop-level.level c.loop-level.tally c.of_level.result c.both-tally.result c.loop-level.invariant.few c.of_level.ensures.few
      c.both-tally.ensures.slots c.both-tally.ensures.numbers;
}

pub returns-clause-few : goal.returns-clause-few
returns-clause-few c =
    at_most (1024 * 8 * c.loop-level.level) (1024 * 8 * 4) c.loop-level.tally (omega (arith, c.loop-level.auto, few_levels c.args.p.now c.requires.faultless))
    c.loop-level.invariant.few
