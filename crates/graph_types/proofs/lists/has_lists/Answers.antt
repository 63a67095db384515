use Rattle.std.proofs.Common.{◌≡◌, true, false, subst, sym}
use Rattle.std.specs.Prelude.{All}
use Rattle.graph_types.specs.Graph.{IsSlotList}
use Rattle.graph_types.proofs.lists.has_lists.Goals as goal

pub returns-then-not-are_slot_lists : goal.returns-then-not-are_slot_lists
returns-then-not-are_slot_lists c = (
  λ t. absurd cc,
  λ lists.
      let good : c.are_slot_lists.result ≡ true = c.are_slot_lists.ensures.1 (subst (All (IsSlotList c.args.g.now.slots)) (sym c.as_slice.ensures) lists.reads) in
      let none : c.are_slot_lists.result ≡ false = c.if-not-are_slot_lists.true in
      absurd cc,
)

pub returns : goal.returns
returns c =
    let slots = c.args.g.now.slots in (
      λ t. record {
        lengths = c.has_lengths.ensures.0 c.if-not-has_lengths.false;
        limits = c.is_within_limits.ensures.0 c.if-not-is_within_limits.false;
        reads = subst (All (IsSlotList slots)) c.as_slice.ensures (c.are_slot_lists.ensures.0 c.if-not-are_slot_lists.false);
        writes = subst (All (IsSlotList slots)) c.as_slice-2.ensures (c.are_slot_lists-2.ensures.0 t);
      },
      λ lists. c.are_slot_lists-2.ensures.1 (subst (All (IsSlotList slots)) (sym c.as_slice-2.ensures) lists.writes),
    )
