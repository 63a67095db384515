use Rattle.std.proofs.Common.{◌≡◌, ◌∙◌, take, true, false, refl, subst, sym}
use Rattle.std.proofs.lemmas.List.{take_all}
use Rattle.std.proofs.lemmas.List.Elements.{All-more, All-same}
use Rattle.graph_types.specs.Graph.{IsSlotList}
use Rattle.graph_types.proofs.lists.are_slot_lists.Goals as goal

pub returns-then-not-is_slot_list : goal.returns-then-not-is_slot_list
returns-then-not-is_slot_list c = (
  λ t. absurd cc,
  λ each.
      let listed : c.is_slot_list.result ≡ true =
      c.is_slot_list.ensures.1 (subst (IsSlotList c.args.slots) (sym (c.as_slice.ensures ∙ c.numbers-item.is)) (each c.loop-numbers.numbers-index c.numbers-item.result c.loop-numbers-test.true)) in
      let none : c.is_slot_list.result ≡ false = c.if-not-is_slot_list.true in
      absurd cc,
)

pub loop-numbers-preserved : goal.loop-numbers-preserved
loop-numbers-preserved c =
    All-more (IsSlotList c.args.slots) c.args.lists.now c.loop-numbers.numbers-index c.numbers-item.result c.loop-numbers-test.true c.loop-numbers.invariant
    (subst (IsSlotList c.args.slots) (c.as_slice.ensures ∙ c.numbers-item.is) (c.is_slot_list.ensures.0 c.if-not-is_slot_list.false))

pub returns : goal.returns
returns c = (
  λ t. All-same (IsSlotList c.args.slots) c.args.lists.now (take c.loop-numbers.numbers-index c.args.lists.now)
      (sym (take_all c.loop-numbers.numbers-index c.args.lists.now c.loop-numbers-test.false)) c.loop-numbers.invariant,
  λ each. refl,
)
