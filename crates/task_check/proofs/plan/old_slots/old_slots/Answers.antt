use Rattle.std.proofs.Common.{◌++◌}
use Rattle.problem_types.specs.Lists.{task_list}
use Rattle.task_check.specs.Plan.{old_numbers, old_variables}
use Rattle.task_check.proofs.Tallies.{tally_both, tally-slots, tally-numbers}
use Rattle.task_check.proofs.plan.old_slots.old_slots.Goals as goal

pub returns-clause-slots : goal.returns-clause-slots
returns-clause-slots c =
    let tasks = task_list c.args.p.now c.args.list in
    tally-slots c.args.p.now tasks (old_variables c.args.p.now ++ old_numbers c.args.p.now) c.both.result
    (tally_both c.args.p.now tasks (old_variables c.args.p.now) (old_numbers c.args.p.now) c.of_variables.result c.of_reductions.result c.both.result
    c.of_variables.ensures.tally c.of_reductions.ensures.tally c.both.ensures.slots c.both.ensures.numbers)

pub returns-clause-numbers : goal.returns-clause-numbers
returns-clause-numbers c =
    let tasks = task_list c.args.p.now c.args.list in
    tally-numbers c.args.p.now tasks (old_variables c.args.p.now ++ old_numbers c.args.p.now) c.both.result
    (tally_both c.args.p.now tasks (old_variables c.args.p.now) (old_numbers c.args.p.now) c.of_variables.result c.of_reductions.result c.both.result
    c.of_variables.ensures.tally c.of_reductions.ensures.tally c.both.ensures.slots c.both.ensures.numbers)
