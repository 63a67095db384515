use Rattle.std.proofs.Common.{take}
use Rattle.graph_text.proofs.Noting.{more_noted}
use Rattle.graph_text.proofs.predecessors.note.Goals as goal

pub loop-successor-preserved : goal.loop-successor-preserved
loop-successor-preserved c =
    let i = c.loop-successor.successor-index in
    let all = c.args.successors.now in
    more_noted c.args.task i all c.args.lists.now c.note_at.new.lists c.loop-successor-test.true
    (c.in_ok-note_at.ensures c.args.lists.now (take i all) c.requires c.loop-successor.invariant)
