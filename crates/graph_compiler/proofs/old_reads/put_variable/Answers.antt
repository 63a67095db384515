use Rattle.problem_types.specs.Lists.{task_list}
use Rattle.graph_compiler.specs.Places.{of_level}
use Rattle.graph_compiler.proofs.PuttingOld.{put_next}
use Rattle.graph_compiler.proofs.old_reads.put_variable.Goals as goal

pub loop-level-preserved : goal.loop-level-preserved
loop-level-preserved c =
    let p = c.args.p.now in
    put_next p (task_list p c.args.list) (of_level p c.args.name) c.loop-level.level c.args.marks.now.items c.loop-level.marks.items c.put_level.new.marks.items
    c.args.slots.now c.loop-level.slots c.put_level.new.slots c.loop-level.invariant c.in_ok-put_level.ensures
