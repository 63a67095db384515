use Rattle.std.proofs.Common.{arith, ◌∙◌, ◌≤◌, ◌<◌, ◌*◌, List, length, map, ap, subst}
use Rattle.std.proofs.lemmas.List.{take_all}
use Rattle.std.proofs.lemmas.List.Concat.{flat_map_single}
use Rattle.problem_types.specs.Lists.{task_list}
use Rattle.problem_types.specs.declared.problem.Reduction.{Reduction}
use Rattle.task_check.specs.Plan.{Slot, OldNumber}
use Rattle.task_check.specs.Tallies.{IsTally}
use Rattle.task_check.proofs.Accepted.{few_reductions}
use Rattle.task_check.proofs.Tallies.{at_most}
use Rattle.task_check.proofs.plan.old_slots.of_reductions.Goals as goal

pub both-tally-requires-clause-few_slots : goal.both-tally-requires-clause-few_slots
both-tally-requires-clause-few_slots c =
    let below : c.loop-q.q-index < length c.args.p.now.reductions = rw c.as_slice-q-items.ensures at c.loop-q-test.true in
    omega (arith, c.loop-q.invariant.few.slots, below, few_reductions c.args.p.now c.requires.faultless)

pub both-tally-requires-clause-few_numbers : goal.both-tally-requires-clause-few_numbers
both-tally-requires-clause-few_numbers c =
    let below : c.loop-q.q-index < length c.args.p.now.reductions = rw c.as_slice-q-items.ensures at c.loop-q-test.true in
    omega (arith, c.loop-q.invariant.few.numbers, below, few_reductions c.args.p.now c.requires.faultless)

pub returns-clause-tally : goal.returns-clause-tally
returns-clause-tally c =
    subst (λ (ss : List Slot). IsTally c.args.p.now (task_list c.args.p.now c.args.list) ss c.loop-q.tally)
    (flat_map_single (λ (q : Reduction). OldNumber q.name) _
    ∙ ap (map (λ (q : Reduction). OldNumber q.name)) (take_all c.loop-q.q-index c.args.p.now.reductions (rw c.as_slice-q-items.ensures at c.loop-q-test.false)))
    c.loop-q.invariant.tally

pub returns-clause-few : goal.returns-clause-few
returns-clause-few c =
    let within : c.loop-q.q-index ≤ length c.args.p.now.reductions = rw c.as_slice-q-items.ensures at c.loop-q.auto.q-index-end in
    at_most (1 * c.loop-q.q-index) 16 c.loop-q.tally (omega (arith, within, few_reductions c.args.p.now c.requires.faultless)) c.loop-q.invariant.few
