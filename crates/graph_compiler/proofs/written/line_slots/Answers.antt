use Rattle.std.proofs.Common.{arith}
use Rattle.graph_compiler.specs.Written.{line_slot}
use Rattle.graph_compiler.proofs.Growing.{put_item}
use Rattle.graph_compiler.proofs.written.line_slots.Goals as goal

pub loop-w-preserved : goal.loop-w-preserved
loop-w-preserved c =
    put_item (line_slot c.args.earlier.now c.args.level c.args.material 0) c.loop-w.slots c.push.new.self c.args.writes.now c.loop-w.w-index c.w-item.result c.line_slot.result
    (omega arith) c.w-item.is c.line_slot.ensures c.loop-w.invariant c.in_ok-push.ensures.ok
