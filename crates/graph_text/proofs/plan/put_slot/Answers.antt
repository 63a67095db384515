use Rattle.std.proofs.Common.{subst, List, Some, ◌≡◌}
use Rattle.std.specs.Prelude.{slice_get}
use Rattle.graph_compiler.specs.declared.plan.Slot.{Slot}
use Rattle.graph_text.specs.Listing.{slot_line}
use Rattle.graph_text.proofs.Lines.{put_numbered}
use Rattle.graph_text.proofs.plan.put_slot.Goals as goal

pub returns : goal.returns
returns c =
    let P : List Slot → Type 0 = λ slots. slice_get slots c.args.number ≡ Some c.item_at-s.result in
    put_numbered (slot_line c.args.p.now c.args.plan.now.graph) c.args.plan.now.slots c.args.number c.item_at-s.result
    c.put_slot_line.result c.put_slot_line.new.line.items (subst P c.as_slice-slots.ensures c.item_at-s.ensures) c.put_slot_line.ensures
