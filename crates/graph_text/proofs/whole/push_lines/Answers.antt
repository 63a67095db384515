use Rattle.std.proofs.Common.{◌≡◌, ◌∷◌, [], ◌++◌, map}
use Rattle.graph_text.proofs.Lines.{put_next}
use Rattle.graph_text.proofs.whole.push_lines.Goals as goal

pub loop-number-preserved : goal.loop-number-preserved
loop-number-preserved c =
    let before = map (λ line. line.items) c.loop-number.lines.items in
    let put : map (λ line. line.items) c.push_line.new.lines.items ≡ before ++ c.put.new.line.items ∷ [] = rw c.deref.ensures.value at c.in_ok-push_line.ensures in
    put_next (map (λ line. line.items) c.args.lines.now.items) before (map (λ line. line.items) c.push_line.new.lines.items)
    c.args.of_plan.now c.loop-number.number c.put.new.line.items c.loop-number.invariant put c.in_ok-put.ensures
