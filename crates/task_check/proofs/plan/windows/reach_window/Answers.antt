use Rattle.std.proofs.Common.{arith}
use Rattle.task_check.proofs.Accepted.{keeps_grid_limits}
use Rattle.task_check.proofs.Ratios.{ratio_within}
use Rattle.task_check.proofs.plan.windows.reach_window.Goals as goal

pub window_seen-requires-clause-limits : goal.window_seen-requires-clause-limits
window_seen-requires-clause-limits c = keeps_grid_limits c.args.p.now c.requires.form c.requires.faultless c.args.level c.level_at-l.result.now c.level_at-l.ensures

pub patch_line-requires-clause-limits : goal.patch_line-requires-clause-limits
patch_line-requires-clause-limits c = keeps_grid_limits c.args.p.now c.requires.form c.requires.faultless c.args.level c.level_at-l.result.now c.level_at-l.ensures

pub patch_line-requires-in-Fine-clause-limits : goal.patch_line-requires-in-Fine-clause-limits
patch_line-requires-in-Fine-clause-limits c = keeps_grid_limits c.args.p.now c.requires.form c.requires.faultless c.args.level c.level_at-l.result.now c.level_at-l.ensures

pub divided-coarse-requires-clause-some : goal.divided-coarse-requires-clause-some
divided-coarse-requires-clause-some c =
    let within = ratio_within c.args.p.now c.requires.faultless c.args.level in
    omega (arith, within.some, c.ratio_of.ensures)

pub refined-requires-clause-few : goal.refined-requires-clause-few
refined-requires-clause-few c = rw c.ratio_of-in-Fine.ensures (ratio_within c.args.p.now c.requires.faultless _).few
