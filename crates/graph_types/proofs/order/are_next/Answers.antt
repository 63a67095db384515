use Rattle.std.proofs.Common.{◌≡◌, get_or, take, true, false, refl, sym}
use Rattle.std.specs.Prelude.{Some, slice_get}
use Rattle.std.proofs.lemmas.List.{take_all}
use Rattle.std.proofs.lemmas.List.Elements.{All-more, All-same}
use Rattle.graph_types.specs.Graph.{successors_of}
use Rattle.graph_types.proofs.order.are_next.Goals as goal

pub is_next-requires-clause-first : goal.is_next-requires-clause-first
is_next-requires-clause-first c = c.requires.leaders c.loop-first.first-index 0 c.loop-first-test.true

pub returns-then-not-is_next : goal.returns-then-not-is_next
returns-then-not-is_next c = (
  λ t. absurd cc,
  λ each.
      let next : c.is_next.result ≡ true = c.is_next.ensures.1 (each c.loop-first.first-index 0 c.loop-first-test.true) in
      let none : c.is_next.result ≡ false = c.if-not-is_next.true in
      absurd cc,
)

pub loop-first-preserved : goal.loop-first-preserved
loop-first-preserved c =
    All-more (λ first. slice_get (successors_of c.args.g.now first) (get_or c.args.before.now first 0) ≡ Some c.args.task) c.args.leaders.now c.loop-first.first-index 0 c.loop-first-test.true
    c.loop-first.invariant (c.is_next.ensures.0 c.if-not-is_next.false)

pub returns : goal.returns
returns c = (
  λ t. All-same (λ first. slice_get (successors_of c.args.g.now first) (get_or c.args.before.now first 0) ≡ Some c.args.task) c.args.leaders.now (take c.loop-first.first-index c.args.leaders.now)
      (sym (take_all c.loop-first.first-index c.args.leaders.now c.loop-first-test.false)) c.loop-first.invariant,
  λ each. refl,
)
