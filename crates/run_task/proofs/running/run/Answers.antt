use Rattle.std.proofs.Common.{length, sym, subst}
use Rattle.graph_types.specs.Graph.{reads_of, writes_of}
use Rattle.slot_contents.specs.Contents.{contents_of}
use Rattle.slot_contents.specs.Values.{Fits}
use Rattle.unified_scheduler.specs.Fitting.{AreFitting}
use Rattle.run_task.specs.Gathered.{HasGathered}
use Rattle.run_task.proofs.Ran.{combining, number_fits_slot}
use Rattle.run_task.proofs.running.run.Goals as goal

pub returns-in-Combining : goal.returns-in-Combining
returns-in-Combining c =
    let job = c.args.job.now in
    let p = job.checked.now in
    let graph = job.plan.now.graph in
    let has = combining p job.step c.args.task (length (reads_of graph c.args.task)) c.in-Combining.parts
    (subst (HasGathered p job.step c.args.task (length (reads_of graph c.args.task))) c.in-Combining.is c.requires.gathered) in
    subst (AreFitting Fits (contents_of p job.step) (writes_of graph c.args.task)) (sym c.number_of.ensures)
    (number_fits_slot p job.step job.plan.now job.shown c.args.task c.writes_stand_in_order.ensures c.parts_make_reductions.ensures c.in-Combining.parts has)
