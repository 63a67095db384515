use Rattle.std.proofs.Common.{◌≡◌, ◌∙◌, true, false, below_more, refl, sym, arith}
use Rattle.graph_types.specs.Facts.{readers_listed, writers_listed}
use Rattle.graph_types.specs.Parts.{IsSlotValid}
use Rattle.graph_types.proofs.Counted.{slot_of, slots_from}
use Rattle.graph_types.proofs.slots.are_all_valid.Goals as goal

pub is_slot_valid-requires-clause-read : goal.is_slot_valid-requires-clause-read
is_slot_valid-requires-clause-read c =
    c.requires.readers.at c.loop-slot.slot c.loop-slot-test.true ∙ sym (readers_listed c.args.g.now c.requires.lists.lengths c.loop-slot.slot)

pub is_slot_valid-requires-clause-written : goal.is_slot_valid-requires-clause-written
is_slot_valid-requires-clause-written c =
    c.requires.writers.at c.loop-slot.slot c.loop-slot-test.true ∙ sym (writers_listed c.args.g.now c.requires.lists.lengths c.loop-slot.slot)

pub returns-then-not-is_slot_valid : goal.returns-then-not-is_slot_valid
returns-then-not-is_slot_valid c = (
  λ t. absurd cc,
  λ valid.
      let good : c.is_slot_valid.result ≡ true = c.is_slot_valid.ensures.1 (slot_of c.args.g.now valid c.loop-slot.slot c.loop-slot-test.true) in
      let none : c.is_slot_valid.result ≡ false = c.if-not-is_slot_valid.true in
      absurd cc,
)

pub loop-slot-preserved : goal.loop-slot-preserved
loop-slot-preserved c = below_more (IsSlotValid c.args.g.now) c.loop-slot.slot c.loop-slot.invariant (c.is_slot_valid.ensures.0 c.if-not-is_slot_valid.false)

pub returns : goal.returns
returns c = (
  λ t. slots_from c.args.g.now c.requires.lists.lengths.old (λ slot there. c.loop-slot.invariant slot (omega (arith, c.loop-slot-test.false))),
  λ valid. refl,
)
