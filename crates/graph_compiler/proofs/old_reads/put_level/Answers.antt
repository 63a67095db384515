use Rattle.problem_types.specs.Lists.{task_list}
use Rattle.graph_compiler.specs.Places.{of_material}
use Rattle.graph_compiler.proofs.PuttingOld.{put_next}
use Rattle.graph_compiler.proofs.old_reads.put_level.Goals as goal

pub loop-material-preserved : goal.loop-material-preserved
loop-material-preserved c =
    let p = c.args.p.now in
    put_next p (task_list p c.args.list) (of_material p c.args.name c.args.level) c.loop-material.material c.args.marks.now.items c.loop-material.marks.items c.put_patches.new.marks.items
    c.args.slots.now c.loop-material.slots c.put_patches.new.slots c.loop-material.invariant c.in_ok-put_patches.ensures
