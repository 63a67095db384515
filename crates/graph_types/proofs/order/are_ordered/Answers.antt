use Rattle.std.proofs.Common.{◌≡◌, ℕ, true, false, below_more, subst, arith}
use Rattle.graph_types.specs.Parts.{AreFollowersCounted, IsTaskOrdered}
use Rattle.graph_types.proofs.Walking.{complete_of, task_of, tasks_from}
use Rattle.graph_types.proofs.order.are_ordered.Goals as goal

pub returns-then-not-branch : goal.returns-then-not-branch
returns-then-not-branch c = (
  λ t. absurd cc,
  λ ordered.
      let good : c.in_ok-is_task_ordered.field-0 ≡ true = c.in_ok-is_task_ordered.ensures.ordered.1 (task_of c.args.g.now ordered c.loop-task.task c.loop-task-test.true) in
      let none : c.in_ok-is_task_ordered.field-0 ≡ false = c.if-not-branch.true in
      absurd cc,
)

pub loop-task-preserved : goal.loop-task-preserved
loop-task-preserved c = record {
  seen = c.in_ok-is_task_ordered.ensures.seen;
  before = c.in_ok-is_task_ordered.ensures.before;
  ordered = below_more (IsTaskOrdered c.args.g.now) c.loop-task.task c.loop-task.invariant.ordered (c.in_ok-is_task_ordered.ensures.ordered.0 c.if-not-branch.false);
}

pub are_complete-requires-clause-followers : goal.are_complete-requires-clause-followers
are_complete-requires-clause-followers c =
    let end : c.loop-task.task ≡ c.args.g.now.tasks = omega (arith, c.loop-task.auto.task-end, c.loop-task-test.false) in
    subst (λ (t : ℕ). AreFollowersCounted c.args.g.now t c.loop-task.before) end c.loop-task.invariant.before

pub returns : goal.returns
returns c = (
  λ t. tasks_from c.args.g.now (λ task there. c.loop-task.invariant.ordered task (omega (arith, c.loop-task-test.false))) (c.are_complete.ensures.0 t),
  λ ordered. c.are_complete.ensures.1 (complete_of c.args.g.now ordered),
)
