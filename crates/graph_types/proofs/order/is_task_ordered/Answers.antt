use Rattle.std.proofs.Common.{◌≤◌, refl, arith}
use Rattle.graph_types.proofs.Linkable.{linkable}
use Rattle.graph_types.proofs.Walking.{followers_few, followers_more}
use Rattle.graph_types.proofs.Writing.{raised_as}
use Rattle.graph_types.proofs.order.is_task_ordered.Goals as goal

pub leaders_of-requires-clause-linkable : goal.leaders_of-requires-clause-linkable
leaders_of-requires-clause-linkable c = linkable c.args.g.now c.requires.lists c.requires.slots

pub raise-requires-clause-few : goal.raise-requires-clause-few
raise-requires-clause-few c =
    let few : c.args.task ≤ 65536 = omega (arith, c.requires.task, c.requires.lists.limits.tasks) in
    followers_few c.args.g.now c.args.task c.args.before.now few c.requires.before

pub returns-clause-before : goal.returns-clause-before
returns-clause-before c =
    followers_more c.args.g.now c.args.task c.in_ok-leaders.leaders.items c.args.before.now c.raise.new.counts c.in_ok-leaders.ensures.leaders c.requires.before c.raise.auto.counts
    (raised_as c.args.before.now c.args.before.now c.raise.new.counts c.deref-2.result.now c.in_ok-leaders.leaders.items refl c.deref-2.ensures.value c.raise.ensures)
