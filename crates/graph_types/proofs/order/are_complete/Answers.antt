use Rattle.std.proofs.Common.{◌≡◌, ◌∙◌, ℕ, length, ap, below_more, refl, sym, arith}
use Rattle.graph_types.specs.Graph.{successors_of}
use Rattle.graph_types.specs.Parts.{followers_before}
use Rattle.graph_types.proofs.order.are_complete.Goals as goal

pub list_at-requires : goal.list_at-requires
list_at-requires c = omega (arith, c.requires.lists.lengths.successors)

pub returns-then-list_at-followers : goal.returns-then-list_at-followers
returns-then-list_at-followers c = (
  λ t. absurd cc,
  λ each. absurd (c.if-list_at-followers.true
      (ap length c.list_at.ensures ∙ each c.loop-task.task c.loop-task-test.true ∙ sym (c.requires.followers.at c.loop-task.task c.loop-task-test.true))),
)

pub loop-task-preserved : goal.loop-task-preserved
loop-task-preserved c =
    below_more (λ (task : ℕ). length (successors_of c.args.g.now task) ≡ followers_before c.args.g.now task c.args.g.now.tasks) c.loop-task.task c.loop-task.invariant
    (sym (ap length c.list_at.ensures) ∙ c.if-list_at-followers.false ∙ c.requires.followers.at c.loop-task.task c.loop-task-test.true)

pub returns : goal.returns
returns c = (
  λ t. λ task there. c.loop-task.invariant task (omega (arith, c.loop-task-test.false)),
  λ each. refl,
)
